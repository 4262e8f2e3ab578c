-- `filter::filter` meets its contract.
use Rattle.front.proofs.Slices.{rest_long, rest_then}
use Rattle.front.proofs.Laws.{opened_file, refused_file, closed_file, rest_work}
use Rattle.filter.proofs.Laws.{gives_8, gives_lists, refused_exact}
use Rattle.filter.proofs.Answers.{open_runs, open_gives}
use Rattle.filter.proofs.Demands.{promise}
use Rattle.filter.proofs.filter.Goals as goal

pub list_asks-made-requires : goal.list_asks-made-requires
list_asks-made-requires c =
    open_runs (opened_file c.open_file.ensures c.in-Ok.is)

pub put_lists-put-requires : goal.put_lists-put-requires
put_lists-put-requires c =
    let file = opened_file c.open_file.ensures c.in-Ok.is in
    (c.list_asks-made.ensures.replied.fits, (rest_long file.long (rest_then file.rest (rest_work c.list_asks-made.ensures.rest.0 c.list_asks-made.ensures.rest.1))).on_refs)

pub close_file-requires : goal.close_file-requires
close_file-requires c =
    let file = opened_file c.open_file.ensures c.in-Ok.is in
    rest_long file.long (rest_then file.rest (rest_work c.list_asks-made.ensures.rest.0 c.list_asks-made.ensures.rest.1))

pub returns-in-Ok-put : goal.returns-in-Ok-put
returns-in-Ok-put c =
    let file = opened_file c.open_file.ensures c.in-Ok.is in
    let put = c.in-Ok-put.ensures.put in
    promise _ (record {
      gives = open_gives file (gives_lists c.list_asks-made.ensures.replied put.0 put.1);
      slices = closed_file file (rest_work c.list_asks-made.ensures.rest.0 c.list_asks-made.ensures.rest.1) c.close_file.ensures;
    })

pub returns-in-Err-put : goal.returns-in-Err-put
returns-in-Err-put c =
    let file = opened_file c.open_file.ensures c.in-Ok.is in
    let put = c.in-Err-put.ensures.put in
    promise _ (record {
      gives = open_gives file (gives_8 c.list_asks-made.ensures.replied put.0 put.1 put.2 c.refused.ensures);
      slices = closed_file file (rest_work c.list_asks-made.ensures.rest.0 c.list_asks-made.ensures.rest.1) c.close_file.ensures;
    })

pub returns-in-Err : goal.returns-in-Err
returns-in-Err c =
    promise _ (refused_exact (refused_file c.open_file.ensures c.in-Err.is) c.refused-in-Err.ensures)
