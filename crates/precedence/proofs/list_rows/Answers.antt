-- `precedence::list_rows` meets its contract.
use native.Mathlib.Omega.{arith}
use Rattle.front.proofs.Slices.{rest_long}
use Rattle.precedence.proofs.Call.{late_small, put_count, put_same, put_rest, short_listed, rows_listed}
use Rattle.precedence.proofs.list_rows.Goals as goal

pub put_rows-count-requires : goal.put_rows-count-requires
put_rows-count-requires c =
    (c.requires.checkable, c.requires.long.on_refs, c.requires.long.on_run, c.requires.few)

pub close_file-requires : goal.close_file-requires
close_file-requires c =
    rest_long c.requires.long (put_rest c.put_rows-count.ensures c.requires.few)

pub overflow_cast-count : goal.overflow_cast-count
overflow_cast-count c =
    omega (arith, put_count c.put_rows-count.ensures, c.requires.few)

pub returns-then-is_short : goal.returns-then-is_short
returns-then-is_short c =
    short_listed c.put_rows-count.ensures c.requires.few c.if-is_short.true c.close_file.ensures c.refused.ensures

pub close_tables-requires : goal.close_tables-requires
close_tables-requires c =
    let long = rest_long c.requires.long (put_rest c.put_rows-count.ensures c.requires.few) in
    (long.on_names, long.on_refs, long.on_rows, long.on_recs, long.on_lists)

pub overflow_mul-count : goal.overflow_mul-count
overflow_mul-count c =
    omega (arith, put_count c.put_rows-count.ensures, c.requires.few)

pub overflow_mul-count-2 : goal.overflow_mul-count-2
overflow_mul-count-2 c =
    omega (arith, put_count c.put_rows-count.ensures, c.requires.few)

pub overflow_sub-count : goal.overflow_sub-count
overflow_sub-count c =
    omega (arith, put_count c.put_rows-count.ensures, c.requires.few)

pub clear-requires : goal.clear-requires
clear-requires c =
    omega (arith, put_count c.put_rows-count.ensures, c.requires.few, c.requires.long.on_run, (put_same c.put_rows-count.ensures c.requires.few).same_length)

pub returns : goal.returns
returns c =
    rows_listed c.put_rows-count.ensures c.requires.few c.close_tables.ensures c.clear.ensures (late_small c.args.w0.now c.args.w3.now c.args.w4.now c.args.k) c.if-is_short.false
