use Rattle.std.proofs.Common.{◌-◌, arith}
use Rattle.node_table.proofs.Layouts.{node_within}
use Rattle.node_table.proofs.Rebuilding.{small_heads, enter_attach}
use Rattle.node_table.proofs.table.NodeTable.enter.Goals as goal

pub attach-requires-clause-heads : goal.attach-requires-clause-heads
attach-requires-clause-heads c = small_heads c.args.self.now (c.args.h - 2) _ (λ h p. node_within c.args.self.now h p.0) c.requires.1.chains

pub returns-then-height-ne0-clause-chains : goal.returns-then-height-ne0-clause-chains
returns-then-height-ne0-clause-chains c =
    let a = c.attach.ensures in
    enter_attach c.args.self.now c.attach.new.self c.args.h a.only.setting.limit a.attached (omega (arith, c.height.ensures)) c.requires.1
