use Rattle.std.proofs.Common.{refl}
use Rattle.std.specs.Fmt.{digits}
use Rattle.exact.specs.Shares.{nearest, share}
use Rattle.matrices.proofs.Computing.{a_register}
use Rattle.matrices.proofs.examples.Goals as goal

pub returns : goal.returns
unfolding a_register nearest share digits
returns c = record {
  open_0 = refl;
  open_0_width = refl;
  h = refl;
  h_h = refl;
  h_t_h = refl;
  h_t_h_outcome_0 = refl;
  h_t_h_outcome_1 = refl;
  z = refl;
  z_width = refl;
  rx = refl;
  ry = refl;
  cx = refl;
  x = refl;
  s = refl;
  t = refl;
  cz = refl;
  ccx = refl;
  bell = refl;
  bell_amplitude = refl;
  bell_weight = refl;
  h_t_h_weight = refl;
}
