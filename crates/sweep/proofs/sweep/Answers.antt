-- `sweep::sweep` meets its contract.
use Rattle.front.proofs.Slices.{rest_long, rest_then}
use Rattle.front.proofs.Laws.{opened_file, refused_file, closed_file, rest_work}
use Rattle.sweep.proofs.Laws.{gives_8, gives_lists}
use Rattle.sweep.proofs.Answers.{open_sweeps, open_gives, refused_exact}
use Rattle.sweep.proofs.Demands.{promise}
use Rattle.sweep.proofs.sweep.Goals as goal

pub list_asks-made-requires : goal.list_asks-made-requires
list_asks-made-requires c =
    open_sweeps (opened_file c.open_file.ensures c.in-Ok.is)

pub put_lists-put-requires : goal.put_lists-put-requires
put_lists-put-requires c =
    let file = opened_file c.open_file.ensures c.in-Ok.is in
    (c.list_asks-made.ensures.replied.listed.fits, (rest_long file.long (rest_then file.rest (rest_work c.list_asks-made.ensures.rest.0 c.list_asks-made.ensures.rest.1))).on_refs)

pub close_file-requires : goal.close_file-requires
close_file-requires c =
    let file = opened_file c.open_file.ensures c.in-Ok.is in
    rest_long file.long (rest_then file.rest (rest_work c.list_asks-made.ensures.rest.0 c.list_asks-made.ensures.rest.1))

pub returns-in-Ok-put : goal.returns-in-Ok-put
returns-in-Ok-put c =
    let file = opened_file c.open_file.ensures c.in-Ok.is in
    let put = c.in-Ok-put.ensures.put in
    let (answered, result) = open_gives file (gives_lists c.list_asks-made.ensures.replied put.0 put.1) in
    promise _ (record {
      answered = answered;
      result = result;
      slices = closed_file file (rest_work c.list_asks-made.ensures.rest.0 c.list_asks-made.ensures.rest.1) c.close_file.ensures;
    })

pub returns-in-Err-put : goal.returns-in-Err-put
returns-in-Err-put c =
    let file = opened_file c.open_file.ensures c.in-Ok.is in
    let put = c.in-Err-put.ensures.put in
    let (answered, result) = open_gives file (gives_8 c.list_asks-made.ensures.replied put.0 put.1 put.2 c.refused.ensures) in
    promise _ (record {
      answered = answered;
      result = result;
      slices = closed_file file (rest_work c.list_asks-made.ensures.rest.0 c.list_asks-made.ensures.rest.1) c.close_file.ensures;
    })

pub returns-in-Err : goal.returns-in-Err
returns-in-Err c =
    promise _ (refused_exact (refused_file c.open_file.ensures c.in-Err.is) c.refused-in-Err.ensures)
