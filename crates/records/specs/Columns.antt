-- The columns of the record table, of the filed entries, and of the names what filing needs. A column is named by its first word.
use Rattle.std.specs.Prelude.{ℕ, zero, suc, ◌+◌, ◌%◌, true, false, List, get_or}
use Rattle.model.specs.declared.AsumKind.{AsumKind}
use Rattle.model.specs.declared.AsumKind.TheVariants.{Drop, Ambient, Triggers}
use Rattle.triggers.specs.Entries.{entries_base, last_flag}

-- ---- the records slice, columns of 1,024 by the record's number

abbrev pub kind_column : ℕ
kind_column = 0

abbrev pub line_column : ℕ
line_column = 1024

abbrev pub name_column : ℕ
name_column = 2048

abbrev pub term_column : ℕ
term_column = 3072

abbrev pub flag_column : ℕ
flag_column = 4096

abbrev pub uses_start_column : ℕ
uses_start_column = 5120

abbrev pub uses_end_column : ℕ
uses_end_column = 6144

abbrev pub entries_start_column : ℕ
entries_start_column = 7168

abbrev pub entries_end_column : ℕ
entries_end_column = 8192

abbrev pub summary_column : ℕ
summary_column = 9216

abbrev pub group_column : ℕ
group_column = 10240

-- a word of a record's row
abbrev pub record_word : List ℕ → ℕ → ℕ → ℕ
record_word recs column i = get_or recs (column + i) 0

-- the kind of a record
abbrev pub record_kind : List ℕ → ℕ → ℕ
record_kind recs i = record_word recs kind_column i

-- its line
abbrev pub record_line : List ℕ → ℕ → ℕ
record_line recs i = record_word recs line_column i

-- the number of its name
abbrev pub record_name : List ℕ → ℕ → ℕ
record_name recs i = record_word recs name_column i

-- the number of its term
abbrev pub record_term : List ℕ → ℕ → ℕ
record_term recs i = record_word recs term_column i

-- the flag of an assume, the query of a root
abbrev pub record_flag : List ℕ → ℕ → ℕ
record_flag recs i = record_word recs flag_column i

-- where its free names start among the uses
abbrev pub uses_start : List ℕ → ℕ → ℕ
uses_start recs i = record_word recs uses_start_column i

-- where they end
abbrev pub uses_end : List ℕ → ℕ → ℕ
uses_end recs i = record_word recs uses_end_column i

-- where its trigger entries start among the entries
abbrev pub entries_start : List ℕ → ℕ → ℕ
entries_start recs i = record_word recs entries_start_column i

-- where they end
abbrev pub entries_end : List ℕ → ℕ → ℕ
entries_end recs i = record_word recs entries_end_column i

-- the code of a fact's kind
abbrev pub summary_code : List ℕ → ℕ → ℕ
summary_code recs i = record_word recs summary_column i

-- the group of a fact
abbrev pub record_group : List ℕ → ℕ → ℕ
record_group recs i = record_word recs group_column i

-- ---- the same slice, behind the records: 16 words each by the position of an ask

abbrev pub ask_query_column : ℕ
ask_query_column = 11264

abbrev pub ask_options_column : ℕ
ask_options_column = 11280

abbrev pub ask_kind_column : ℕ
ask_kind_column = 11296

abbrev pub ask_groups_column : ℕ
ask_groups_column = 11312

-- the positions that have room
abbrev pub ask_room : ℕ
ask_room = 16

-- the words of the asks
abbrev pub ask_columns : ℕ
ask_columns = 64

-- the query of an ask
abbrev pub ask_query : List ℕ → ℕ → ℕ
ask_query recs i = get_or recs (ask_query_column + i) 0

-- its options number
abbrev pub ask_options : List ℕ → ℕ → ℕ
ask_options recs i = get_or recs (ask_options_column + i) 0

-- the kind of its line
abbrev pub ask_kind : List ℕ → ℕ → ℕ
ask_kind recs i = get_or recs (ask_kind_column + i) 0

-- the number of the groups that it admits
abbrev pub ask_groups : List ℕ → ℕ → ℕ
ask_groups recs i = get_or recs (ask_groups_column + i) 0

-- the kinds of the lines of positions
abbrev pub asked_kind : ℕ
asked_kind = 0

abbrev pub also_kind : ℕ
also_kind = 1

-- the kinds of records
abbrev pub assume_kind : ℕ
assume_kind = 0

abbrev pub fun_kind : ℕ
fun_kind = 1

abbrev pub def_kind : ℕ
def_kind = 2

abbrev pub retain_kind : ℕ
retain_kind = 3

abbrev pub root_kind : ℕ
root_kind = 4

abbrev pub hide_kind : ℕ
hide_kind = 5

-- the kind of a fact by its code
unfoldable pub kind_of_code : ℕ → AsumKind
kind_of_code zero = Drop
kind_of_code (suc zero) = Ambient false
kind_of_code (suc (suc zero)) = Ambient true
kind_of_code (suc (suc (suc n))) = Triggers n

-- the code of a fact's kind
unfoldable pub code_of : AsumKind → ℕ
code_of Drop = 0
code_of (Ambient false) = 1
code_of (Ambient true) = 2
code_of (Triggers n) = 3 + n

-- ---- the lists slice: uses from word 0 on, then three columns of 2,048 by the entry's number, the first that of `triggers`

abbrev pub fact_column : ℕ
fact_column = 8192

abbrev pub next_column : ℕ
next_column = 10240

-- the word of an entry
abbrev pub entry_word : List ℕ → ℕ → ℕ
entry_word lists e = get_or lists (entries_base + e) 0

-- the number of the name of an entry, or that of no name
abbrev pub entry_name : List ℕ → ℕ → ℕ
entry_name lists e = entry_word lists e % last_flag

-- the record of the fact of an entry
abbrev pub entry_fact : List ℕ → ℕ → ℕ
entry_fact lists e = get_or lists (fact_column + e) 0

-- the next older entry on the same name and one, or 0
abbrev pub next_entry : List ℕ → ℕ → ℕ
next_entry lists e = get_or lists (next_column + e) 0

-- ---- the names slice, columns of 2,048 by the name's number

abbrev pub taken_column : ℕ
taken_column = 10240

abbrev pub macro_column : ℕ
macro_column = 12288

abbrev pub first_column : ℕ
first_column = 14336

-- the assume, fun or def record that took a name and one, or 0
abbrev pub taken_at : List ℕ → ℕ → ℕ
taken_at names n = get_or names (taken_column + n) 0

-- the macro word of a name
abbrev pub macro_at : List ℕ → ℕ → ℕ
macro_at names n = get_or names (macro_column + n) 0

-- the newest entry that waits on a name and one, or 0
abbrev pub first_entry : List ℕ → ℕ → ℕ
first_entry names n = get_or names (first_column + n) 0
