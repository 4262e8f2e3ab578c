-- `front::open_lines` meets its contract.
use Rattle.front.proofs.Slices.{rest_long}
use Rattle.front.proofs.Laws.{lent, rest_read, opening_read, opening_refused}
use Rattle.front.proofs.open_lines.Goals as goal

pub clear-requires : goal.clear-requires
clear-requires c =
    c.requires.0.on_names

pub clear-requires-2 : goal.clear-requires-2
clear-requires-2 c =
    c.requires.0.on_rows

pub read_file-requires : goal.read_file-requires
read_file-requires c =
    lent c.requires.0 c.requires.1 c.clear.ensures c.clear-2.ensures

pub close_file-requires : goal.close_file-requires
close_file-requires c =
    rest_long c.requires.0 (rest_read c.args.w5.now c.clear.ensures c.clear-2.ensures c.read_file.ensures.past)

pub shape_of-w0-in-Ok : goal.shape_of-w0-in-Ok
shape_of-w0-in-Ok c =
    (rest_read c.args.w5.now c.clear.ensures c.clear-2.ensures c.read_file.ensures.past).on_names.same_length

pub shape_of-w1-in-Ok : goal.shape_of-w1-in-Ok
shape_of-w1-in-Ok c =
    (rest_read c.args.w5.now c.clear.ensures c.clear-2.ensures c.read_file.ensures.past).on_refs.same_length

pub shape_of-w2-in-Ok : goal.shape_of-w2-in-Ok
shape_of-w2-in-Ok c =
    (rest_read c.args.w5.now c.clear.ensures c.clear-2.ensures c.read_file.ensures.past).on_rows.same_length

pub shape_of-w3-in-Ok : goal.shape_of-w3-in-Ok
shape_of-w3-in-Ok c =
    (rest_read c.args.w5.now c.clear.ensures c.clear-2.ensures c.read_file.ensures.past).on_recs.same_length

pub shape_of-w4-in-Ok : goal.shape_of-w4-in-Ok
shape_of-w4-in-Ok c =
    (rest_read c.args.w5.now c.clear.ensures c.clear-2.ensures c.read_file.ensures.past).on_lists.same_length

pub returns-in-Ok : goal.returns-in-Ok
returns-in-Ok c =
    opening_read _ c.requires.0 c.requires.1 c.read_file.ensures.reads c.in-Ok.is
    (rest_read c.args.w5.now c.clear.ensures c.clear-2.ensures c.read_file.ensures.past)
    (c.read_file.ensures.terms _ c.in-Ok.is)

pub returns-in-Err : goal.returns-in-Err
returns-in-Err c =
    opening_refused _ c.requires.0 c.requires.1 c.read_file.ensures.reads c.in-Err.is
    (rest_read c.args.w5.now c.clear.ensures c.clear-2.ensures c.read_file.ensures.past) c.close_file.ensures
