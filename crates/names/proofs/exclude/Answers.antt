-- `names::exclude` meets its contract.
use Prim.Native.Nat.{◌+◌}
use mathlib.Core.Path.{ap}
use lib.ListN.{set}
use Rattle.names.specs.Known.{excluded_mark}
use Rattle.names.specs.Table.{code_column, excluded_at}
use Rattle.names.proofs.exclude.Goals as goal

pub returns : goal.returns
unfolding excluded_at
returns c =
    let args = c.args in
    ap (λ k. set args.w.now (code_column + args.n) (k + excluded_mark)) c.code_at-code.ensures
