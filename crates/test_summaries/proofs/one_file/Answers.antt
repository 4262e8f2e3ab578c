-- `test_summaries::one_file` is safe and ends.
use Rattle.test_summaries.proofs.Laws.{zeros_cleared, read_filled}
use Rattle.test_summaries.proofs.one_file.Goals as goal

pub read_file-requires : goal.read_file-requires
read_file-requires g c =
    zeros_cleared c.requires

pub put_facts-requires : goal.put_facts-requires
put_facts-requires g c =
    (read_filled c.read_file.ensures.reads c.in-Ok.is, c.read_file.ensures.terms _ c.in-Ok.is)
