use Rattle.node_table.specs.Layout.{diagram_of}
use Rattle.node_table.proofs.table.NodeTable.+mark.Given as goal

abbrev pub decreases-mark : goal.decreases-mark
decreases-mark l = (diagram_of l.self.now).height l.h
