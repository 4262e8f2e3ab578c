-- `test_gather::walked` is safe and ends.
use native.Mathlib.Omega.{arith}
use Rattle.test_gather.proofs.Laws.{zeros_blank, set_blank}
use Rattle.test_gather.proofs.walked.Goals as goal

pub build-size-requires : goal.build-size-requires
build-size-requires c = ((zeros_blank 0 16384 (omega arith)).long, zeros_blank 12288 16384 (omega arith))

pub gather_all-requires : goal.gather_all-requires
gather_all-requires c = (set_blank 6149 c.args.code (omega arith) (zeros_blank 8192 16384 (omega arith)), c.build-size.ensures.0)

pub gather_last-requires : goal.gather_last-requires
gather_last-requires c =
    (set_blank 6149 c.args.code (omega arith) (zeros_blank 8192 16384 (omega arith)), c.build-size.ensures.0, c.build-size.ensures.1, c.requires)
