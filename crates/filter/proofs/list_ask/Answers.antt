-- `filter::list_ask` meets its contract.
use native.Mathlib.Omega.{arith}
use Rattle.filter.proofs.Answers.{goes_as, placed_ask, stretch_small, run_over, lines_room, listed, still_stands, slice_rest}
use Rattle.filter.proofs.list_ask.Goals as goal

pub ask_at-a-requires : goal.ask_at-a-requires
ask_at-a-requires c =
    (omega (arith, c.requires.0.few_asks, c.requires.1), c.requires.0.filled.recorded.room)

pub run_stretch-made-requires : goal.run_stretch-made-requires
run_stretch-made-requires c =
    let placed = placed_ask _ c.args.i c.ask_at-a.ensures (omega (arith, c.requires.0.few_asks, c.requires.1)) in
    (c.requires.0.filled, c.requires.0.room, placed.0, placed.1, goes_as c.ask_at-a.ensures c.requires.3)

pub prune-kept-requires : goal.prune-kept-requires
prune-kept-requires c =
    let placed = placed_ask _ c.args.i c.ask_at-a.ensures (omega (arith, c.requires.0.few_asks, c.requires.1)) in
    run_over c.requires.0 c.requires.0.room placed c.run_stretch-made.ensures

pub copy-requires : goal.copy-requires
copy-requires c =
    let placed = placed_ask _ c.args.i c.ask_at-a.ensures (omega (arith, c.requires.0.few_asks, c.requires.1)) in
    lines_room c.args.at c.requires.0 c.requires.0.room placed c.run_stretch-made.ensures c.prune-kept.ensures
    c.requires.2

pub overflow_cast-result : goal.overflow_cast-result
overflow_cast-result c =
    let placed = placed_ask _ c.args.i c.ask_at-a.ensures (omega (arith, c.requires.0.few_asks, c.requires.1)) in
    omega (
      arith,
      c.prune-kept.ensures.count,
      (run_over c.requires.0 c.requires.0.room placed c.run_stretch-made.ensures).fits,
    )

pub overflow_cast-result-2 : goal.overflow_cast-result-2
overflow_cast-result-2 c =
    let placed = placed_ask _ c.args.i c.ask_at-a.ensures (omega (arith, c.requires.0.few_asks, c.requires.1)) in
    omega (arith, (stretch_small c.requires.0.filled placed.1 c.run_stretch-made.ensures).0)

pub overflow_cast-result-3 : goal.overflow_cast-result-3
overflow_cast-result-3 c =
    let placed = placed_ask _ c.args.i c.ask_at-a.ensures (omega (arith, c.requires.0.few_asks, c.requires.1)) in
    omega (arith, (stretch_small c.requires.0.filled placed.1 c.run_stretch-made.ensures).1)

pub shape_of-run : goal.shape_of-run
shape_of-run c =
    (slice_rest c.run_stretch-made.ensures.same c.prune-kept.ensures.same).same_length

pub returns : goal.returns
returns c =
    let placed = placed_ask _ c.args.i c.ask_at-a.ensures (omega (arith, c.requires.0.few_asks, c.requires.1)) in
    record {
      listed = listed c.args.at c.ask_at-a.ensures c.requires.0 c.requires.0.room placed c.run_stretch-made.ensures
          c.prune-kept.ensures c.requires.2 c.copy.ensures;
      stands = still_stands c.ask_at-a.ensures c.requires.0.filled c.run_stretch-made.ensures c.prune-kept.ensures;
      rest = slice_rest c.run_stretch-made.ensures.same c.prune-kept.ensures.same;
    }
