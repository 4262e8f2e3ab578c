-- `filter::put_lists` meets its contract.
use native.Mathlib.Omega.{arith}
use Rattle.words.proofs.Slices.{copied_front}
use Rattle.filter.proofs.put_lists.Goals as goal

pub returns : goal.returns
returns c = record {
  put = (c.if-is_short.false, copied_front (omega (arith, c.requires.0, c.requires.1)) c.if-is_short.false c.copy.ensures);
  same_length = c.copy.ensures.same.same_length;
}
