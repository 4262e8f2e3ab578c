-- `front::close_file` meets its contract.
use native.Mathlib.Omega.{arith}
use Rattle.front.proofs.close_file.Goals as goal

pub clear-requires : goal.clear-requires
clear-requires c =
    omega (arith, c.requires.on_names)

pub clear-requires-2 : goal.clear-requires-2
clear-requires-2 c =
    omega (arith, c.requires.on_refs)

pub clear-requires-3 : goal.clear-requires-3
clear-requires-3 c =
    omega (arith, c.requires.on_rows)

pub clear-requires-4 : goal.clear-requires-4
clear-requires-4 c =
    omega (arith, c.requires.on_recs)

pub clear-requires-5 : goal.clear-requires-5
clear-requires-5 c =
    omega (arith, c.requires.on_lists)

pub clear-requires-6 : goal.clear-requires-6
clear-requires-6 c =
    omega (arith, c.requires.on_run)

pub shape_of-w0 : goal.shape_of-w0
shape_of-w0 c =
    c.clear.ensures.same.same_length

pub shape_of-w1 : goal.shape_of-w1
shape_of-w1 c =
    c.clear-2.ensures.same.same_length

pub shape_of-w2 : goal.shape_of-w2
shape_of-w2 c =
    c.clear-3.ensures.same.same_length

pub shape_of-w3 : goal.shape_of-w3
shape_of-w3 c =
    c.clear-4.ensures.same.same_length

pub shape_of-w4 : goal.shape_of-w4
shape_of-w4 c =
    c.clear-5.ensures.same.same_length

pub shape_of-w5 : goal.shape_of-w5
shape_of-w5 c =
    c.clear-6.ensures.same.same_length

pub returns : goal.returns
returns c =
    record {
      on_names = c.clear.ensures;
      on_refs = c.clear-2.ensures;
      on_rows = c.clear-3.ensures;
      on_recs = c.clear-4.ensures;
      on_lists = c.clear-5.ensures;
      on_run = c.clear-6.ensures;
    }
