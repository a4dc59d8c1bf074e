use Rattle.std.proofs.Common.{refl}
use Rattle.plain_examples.proofs.Computing.{a_run}
use Rattle.plain_examples.proofs.examples.Goals as goal

pub returns : goal.returns
unfolding a_run
returns c = record {
  open_0 = refl;
  open_0_width = refl;
  h = refl;
  h_h = refl;
  asked_h_t_h = refl;
  asked_bell = refl;
  copy_and_close = refl;
  refused_2 = refl;
  refused_2_before_6 = refl;
  refused_3 = refl;
  refused_3_copy = refl;
  refused_4 = refl;
  refused_4_copy = refl;
  refused_5 = refl;
  refused_6 = refl;
  refused_6_twice = refl;
  refused_7 = refl;
  refused_10 = refl;
  limit_2 = refl;
  limit_1 = refl;
  nodes_open_0 = record { enough = refl; one_less = refl };
  nodes_open_1 = record { enough = refl; one_less = refl };
  nodes_open_00 = record { enough = refl; one_less = refl };
  nodes_h = record { enough = refl; one_less = refl };
  nodes_cx = record { enough = refl; one_less = refl };
  nodes_outcome_1 = record { enough = refl; one_less = refl };
  nodes_outcome_0 = record { enough = refl; one_less = refl };
  nodes_x = record { enough = refl; one_less = refl };
  tables_open_00 = record { enough = refl; one_less = refl };
  tables_h = record { enough = refl; one_less = refl };
  tables_cx = record { enough = refl; one_less = refl };
  tables_outcome_1 = record { enough = refl; one_less = refl };
  tables_outcome_0 = record { enough = refl; one_less = refl };
  tables_x = record { enough = refl; one_less = refl };
}
