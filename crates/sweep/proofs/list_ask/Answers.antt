-- `sweep::list_ask` meets its contract.
use native.Mathlib.Omega.{arith}
use Rattle.filter.proofs.Answers.{placed_ask}
use Rattle.sweep.proofs.Answers.{run_over, lines_room, listed, sweep_rest}
use Rattle.sweep.proofs.list_ask.Goals as goal

pub ask_at-a-requires : goal.ask_at-a-requires
ask_at-a-requires c =
    (omega (arith, c.requires.0.few_asks, c.requires.1), c.requires.0.filled.recorded.room)

pub sweep_ask-passes-requires : goal.sweep_ask-passes-requires
sweep_ask-passes-requires c =
    let placed = placed_ask _ c.args.i c.ask_at-a.ensures (omega (arith, c.requires.0.few_asks, c.requires.1)) in
    (c.requires.0.filled, placed.1, omega (arith, c.requires.0.room))

pub prune-kept-requires : goal.prune-kept-requires
prune-kept-requires c =
    let placed = placed_ask _ c.args.i c.ask_at-a.ensures (omega (arith, c.requires.0.few_asks, c.requires.1)) in
    run_over c.requires.0 c.requires.0.room placed.1 c.sweep_ask-passes.ensures

pub copy-requires : goal.copy-requires
copy-requires c =
    let placed = placed_ask _ c.args.i c.ask_at-a.ensures (omega (arith, c.requires.0.few_asks, c.requires.1)) in
    lines_room c.args.at c.requires.0 c.requires.0.room placed.1 c.sweep_ask-passes.ensures c.prune-kept.ensures
    c.requires.2

pub overflow_cast-result : goal.overflow_cast-result
overflow_cast-result c =
    let placed = placed_ask _ c.args.i c.ask_at-a.ensures (omega (arith, c.requires.0.few_asks, c.requires.1)) in
    omega (
      arith,
      c.prune-kept.ensures.count,
      (run_over c.requires.0 c.requires.0.room placed.1 c.sweep_ask-passes.ensures).fits,
    )

pub shape_of-run : goal.shape_of-run
shape_of-run c =
    (sweep_rest c.sweep_ask-passes.ensures.same c.prune-kept.ensures.same).same_length

pub returns : goal.returns
returns c =
    let placed = placed_ask _ c.args.i c.ask_at-a.ensures (omega (arith, c.requires.0.few_asks, c.requires.1)) in
    record {
      listed = listed c.args.at c.requires.0 c.requires.0.room placed.1 c.sweep_ask-passes.ensures c.prune-kept.ensures
          c.requires.2 c.args.i c.ask_at-a.ensures c.copy.ensures;
      rest = sweep_rest c.sweep_ask-passes.ensures.same c.prune-kept.ensures.same;
    }
