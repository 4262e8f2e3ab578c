-- `reader::read_kind` meets its contract: each sort of line by its own.
use Rattle.filing.proofs.Recording.{line_said}
use Rattle.reader.proofs.Lifting.{ask_read, term_read}
use Rattle.reader.proofs.Lines.{kind_ask, kind_also, kind_hide, kind_term, kind_record}
use Rattle.reader.proofs.read_kind.Goals as goal

pub read_ask-requires : goal.read_ask-requires
read_ask-requires c =
    (c.requires.1, c.requires.3 _ c.in-Ask.is, c.requires.0.recorded.room)

pub read_also-requires : goal.read_also-requires
read_also-requires c =
    let (some, few) = c.requires.4 c.in-Also.is in
    (c.requires.1, some, few, c.requires.0.recorded.room)

pub read_hide-requires : goal.read_hide-requires
read_hide-requires c =
    (c.requires.0, c.requires.1, c.requires.2)

pub read_term-requires : goal.read_term-requires
read_term-requires c =
    (c.requires.0.tables, c.requires.1)

pub read_record-requires : goal.read_record-requires
read_record-requires c =
    (c.requires.0, c.requires.1, c.requires.2)

pub shape_of-recs-in-Ask : goal.shape_of-recs-in-Ask
shape_of-recs-in-Ask c =
    (ask_read 0 c.requires.0 c.read_ask.ensures).past.record_words.same_length

pub returns-in-Ask : goal.returns-in-Ask
returns-in-Ask c =
    line_said (kind_ask _ _ _ c.in-Ask.is) (ask_read _ c.requires.0 c.read_ask.ensures)

pub shape_of-recs-in-Also : goal.shape_of-recs-in-Also
shape_of-recs-in-Also c =
    (ask_read 0 c.requires.0 c.read_also.ensures).past.record_words.same_length

pub returns-in-Also : goal.returns-in-Also
returns-in-Also c =
    line_said (kind_also _ _ _ c.in-Also.is) (ask_read _ c.requires.0 c.read_also.ensures)

pub returns-in-Hide : goal.returns-in-Hide
returns-in-Hide c =
    line_said (kind_hide _ _ _ c.in-Hide.is) c.read_hide.ensures

pub returns-in-Term : goal.returns-in-Term
returns-in-Term c =
    line_said (kind_term _ _ _ c.in-Term.is) (term_read _ c.requires.0 c.read_term.ensures)

pub returns-in-Record : goal.returns-in-Record
returns-in-Record c =
    line_said (kind_record _ _ _ c.in-Record.is) c.read_record.ensures
