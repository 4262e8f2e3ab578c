-- Document 02, Change 9: files with the rows of the check, shown by computation as F1 to F10 are.
use Prim.Native.Nat.{ℕ}
use Prim.Native.String.{String}
use mathlib.Core.Path.{◌≡◌, refl}
use mathlib.Core.Bool.{Bool, true}
use mathlib.Core.List.{List, [], ◌∷◌, ◌++◌, map}
use lib.ListN.{replicate}
use Rattle.model.specs.Lists
use Rattle.model.specs.Lists.{concat}
use Rattle.model.specs.Names
use Rattle.model.specs.Names.{bytes, same}
use Rattle.model.specs.Summaries.{exclude_names}
use Rattle.model.specs.Reading.{Reading, read_file}
use Rattle.model.specs.Outcome.{working}
use Rattle.model.specs.Precedence
use Rattle.model.specs.Checking
use Rattle.model.specs.Checking.{Checked, refusal_at, listed_rows, check, ordered, table_after}
use Rattle.model.specs.Text
use Rattle.model.specs.Text.{late_line, count_line}
use Rattle.model.specs.declared.Ordered.{Ordered}
use Rattle.model.specs.declared.Refusal.TheVariants as refusal
use Rattle.model.specs.declared.Row.{Row}
use Rattle.model.specs.declared.Verdict.TheVariants.{Accepted, Refused}
use Rattle.model.proofs.Printing.{passes, text_of, name_of, refused_lines}

-- a file by its name: the rows of the table, its text, and the text printed of the check, the texts in pieces
record CheckedCase : Type 0 where
  name : String
  room : ℕ
  file : List String
  printed : List String

-- the lines printed of what the call comes to
unfoldable shown : List ℕ → Reading → Checked → Ordered → List (List ℕ)
shown file found (refusal_at r place) o = refused_lines o.verdict o.place
shown file found (listed_rows given) o =
    map (λ r. late_line file (name_of found r.number) r) given ++ (count_line (bytes "rows") o.rows ∷ [])

-- whether the definitions print of the file what it says, over slices that are long enough
unfoldable lists_them : CheckedCase → Bool
unfolding passes text_of name_of refused_lines shown Text.row_numbers Text.row_fields Text.late_line Text.count_line Lists.find_index Names.name_number Precedence.parts Precedence.sort_of
    Precedence.late_in Precedence.late_rows Checking.checked Checking.rows_fitting Checking.check Checking.ordered Checking.table_after
lists_them c =
    let file = text_of c.file in
    let found = check file (replicate 6 (working 16384)) c.room in
    same (concat (shown file (read_file exclude_names file) found (ordered found))) (text_of c.printed)

-- that they do of each file
abbrev AllListed : List CheckedCase → Type 0
AllListed [] = Unit {0}
AllListed (c ∷ cs) = (lists_them c ≡ true) × AllListed cs

-- order-17-asks-are-13 to order-fun-of-a-starting-macro-name
files_1 : List CheckedCase
files_1 =
    record {
      name = "order-17-asks-are-13";
      room = 6144;
      file = "ask,0,0\nask,0,0\nask,0,0\nask,0,0\nask,0,0\nask,0,0\nask,0,0\nask,0,0\nask,0,0\nask,0,0\nask,0,0\n"
          ∷ "ask,0,0\nask,0,0\nask,0,0\nask,0,0\nask,0,0\nask,0,0\n"
          ∷ [];
      printed = "refused,13,17\n" ∷ [];
    }
    ∷ record {
      name = "order-F10-has-neither";
      room = 6144;
      file = "ask,0,4\nfree,p\nfree,q\ncall,f,0\nall,2,1,1,2\nassume,a1,0,3\nfun,f\ndef,g,1\ncall,g\nop,eq,4,1\n"
          ∷ "assume,e1,0,5\nop,and,2,4\nroot,0,r,6\n"
          ∷ [];
      printed = "row,8,1,2,g,q\nrows,1\n" ∷ [];
    }
    ∷ record {
      name = "order-asks-do-not-matter";
      room = 6144;
      file = "ask,0,4\nask,1,1\nalso,2\nfree,x\ndef,g,0\n" ∷ [];
      printed = "row,5,0,2,g,x\nrows,1\n" ∷ [];
    }
    ∷ record {
      name = "order-bodies-of-facts-and-roots-do-not-count";
      room = 6144;
      file = "ask,0,0\nfree,x\nfree,y\nop,eq,0,1\nassume,a,0,2\nroot,0,r,2\ndef,g,0\nfun,x\n" ∷ [];
      printed = "row,7,0,1,g,x\nrows,1\n" ∷ [];
    }
    ∷ record {
      name = "order-body-shared-by-defs-and-a-later-use";
      room = 6144;
      file = "ask,0,0\nfree,b\nfree,a\nop,and,0,1\ndef,c,2\ndef,b,2\ndef,a,2\ndef,d,2\n" ∷ [];
      printed = "row,5,1,1,c,a\nrow,5,0,1,c,b\nrow,6,1,1,b,a\nrow,6,0,1,b,b\nrow,7,1,1,a,a\nrows,5\n" ∷ [];
    }
    ∷ record {
      name = "order-byte-order-puts-a-prefix-first";
      room = 6144;
      file = "ask,0,0\nfree,pq\nfree,p\nfree,~\nfree,!\nfree,P\nop,other,0,1,2,3,4\ndef,g,5\n" ∷ [];
      printed = "row,8,3,2,g,!\nrow,8,4,2,g,P\nrow,8,1,2,g,p\nrow,8,0,2,g,pq\nrow,8,2,2,g,~\nrows,5\n" ∷ [];
    }
    ∷ record {
      name = "order-def-of-a-starting-macro-name";
      room = 6144;
      file = "ask,0,0\nfree,is-BoxInt\nfree,BoxInt\nop,other,0,1\ndef,g,2\ndef,is-BoxInt,2\ndef,h,2\n" ∷ [];
      printed = "row,5,1,2,g,BoxInt\nrow,5,0,1,g,is-BoxInt\nrow,6,1,2,is-BoxInt,BoxInt\nrow,6,0,1,is-BoxInt,is-BoxInt\n"
          ∷ "row,7,1,2,h,BoxInt\nrows,5\n"
          ∷ [];
    }
    ∷ record {
      name = "order-def-of-one-of-the-nine";
      room = 6144;
      file = "ask,0,0\nfree,Valid\nfree,x\ncall,Valid,1\ndef,g,2\ndef,Valid,2\n" ∷ [];
      printed = "row,5,1,2,g,x\nrow,6,1,2,Valid,x\nrows,2\n" ∷ [];
    }
    ∷ record {
      name = "order-def-on-the-line-above-or-below";
      room = 6144;
      file = "ask,0,0\nfree,f\nfree,h\nop,other,0,1\nleaf\ndef,f,3\ndef,g,2\ndef,h,3\n" ∷ [];
      printed = "row,7,1,1,g,h\nrows,1\n" ∷ [];
    }
    ∷ record {
      name = "order-earlier-def-and-fun-are-no-row";
      room = 6144;
      file = "ask,0,0\nleaf\ndef,h,0\nfun,k\nfree,h\nfree,k\nop,other,1,2\ndef,g,3\n" ∷ [];
      printed = "rows,0\n" ∷ [];
    }
    ∷ record {
      name = "order-fact-name-is-2";
      room = 6144;
      file = "ask,0,0\nfree,x\nassume,x,0,0\ndef,g,0\n" ∷ [];
      printed = "row,4,0,2,g,x\nrows,1\n" ∷ [];
    }
    ∷ record {
      name = "order-first-line-alone";
      room = 6144;
      file = "ask,0,0\n" ∷ [];
      printed = "rows,0\n" ∷ [];
    }
    ∷ record {
      name = "order-fun-of-a-starting-macro-name";
      room = 6144;
      file = "ask,0,0\nfun,is-BoxInt\nfree,is-BoxInt\ndef,g,0\n" ∷ [];
      printed = "rows,0\n" ∷ [];
    }
    ∷ []

files_1_listed : AllListed files_1
unfolding lists_them files_1
files_1_listed = (refl, (refl, (refl, (refl, (refl, (refl, (refl, (refl, (refl, (refl, (refl, (refl, (refl, tt)))))))))))))

-- order-fun-on-the-line-above-or-below to order-of-a-circle-of-three
files_2 : List CheckedCase
files_2 =
    record {
      name = "order-fun-on-the-line-above-or-below";
      room = 6144;
      file = "ask,0,0\nfree,f\nfree,h\nop,other,0,1\nfun,f\ndef,g,2\nfun,h\n" ∷ [];
      printed = "row,6,1,1,g,h\nrows,1\n" ∷ [];
    }
    ∷ record {
      name = "order-groups-and-facts-do-not-matter";
      room = 6144;
      file = "ask2,0,0,0\nask2,1,15,65535\nfree,x\nfree,a\nop,other,0,1\nassume,a,0,15,2\nassume,b,1,3,2\ndef,g,2\n" ∷ [];
      printed = "row,8,1,2,g,a\nrow,8,0,2,g,x\nrows,2\n" ∷ [];
    }
    ∷ record {
      name = "order-heads-and-labels-and-quantifiers";
      room = 6144;
      file = "ask,0,0\nleaf\ncall,f,0\nlabel,1\nfree,h\nsome,2,2,1,3,0\nall,4,0\ndef,g,5\nfun,f\n" ∷ [];
      printed = "row,8,0,1,g,f\nrow,8,1,2,g,h\nrows,2\n" ∷ [];
    }
    ∷ record {
      name = "order-hidden-name-is-no-row";
      room = 6144;
      file = "ask,0,0\nhide,x\nfree,x\nfree,y\nop,other,0,1\ndef,g,2\n" ∷ [];
      printed = "row,6,1,2,g,y\nrows,1\n" ∷ [];
    }
    ∷ record {
      name = "order-hidden-names-of-several-bodies";
      room = 6144;
      file = "ask,0,0\nhide,x\nhide,h\nfree,x\nfree,h\nfree,y\nop,other,0,1,2\ndef,g,3\ndef,h,0\ndef,k,3\nfun,x\n" ∷ [];
      printed = "row,8,2,2,g,y\nrow,10,2,2,k,y\nrows,2\n" ∷ [];
    }
    ∷ record {
      name = "order-hidden-own-name-is-no-row";
      room = 6144;
      file = "ask,0,0\nhide,g\nfree,g\ndef,g,0\n" ∷ [];
      printed = "rows,0\n" ∷ [];
    }
    ∷ record {
      name = "order-later-def-is-1";
      room = 6144;
      file = "ask,0,0\nfree,h\ndef,g,0\nleaf\ndef,h,1\n" ∷ [];
      printed = "row,3,0,1,g,h\nrows,1\n" ∷ [];
    }
    ∷ record {
      name = "order-name-twice-in-a-body-is-one-row";
      room = 6144;
      file = "ask,0,0\nfree,x\ncall,x,0,0\nlet,1,0\ndef,g,2\ndef,h,1\n" ∷ [];
      printed = "row,5,0,2,g,x\nrow,6,0,2,h,x\nrows,2\n" ∷ [];
    }
    ∷ record {
      name = "order-neither-is-2";
      room = 6144;
      file = "ask,0,0\nfree,x\ndef,g,0\n" ∷ [];
      printed = "row,3,0,2,g,x\nrows,1\n" ∷ [];
    }
    ∷ record {
      name = "order-no-defs";
      room = 6144;
      file = "ask,0,0\nfree,x\nfun,g\nassume,a,0,0\nroot,0,r,0\n" ∷ [];
      printed = "rows,0\n" ∷ [];
    }
    ∷ record {
      name = "order-no-final-line-end-is-1";
      room = 6144;
      file = "ask,0,0\nfree,x" ∷ [];
      printed = "refused,1,2\n" ∷ [];
    }
    ∷ record {
      name = "order-number-after-a-trimmed-token";
      room = 6144;
      file = "ask,0,0\nfree,__uu__PartialApp\nfree,f@tok\ncall,ApplyTT,0,1\ncall,Valid,2\nassume,t,0,3\nfree,x\n"
          ∷ "def,g,4\n"
          ∷ [];
      printed = "row,8,6,2,g,x\nrows,1\n" ∷ [];
    }
    ∷ record {
      name = "order-of-a-circle-of-three";
      room = 6144;
      file = "ask,0,0\nfree,b\nfree,c\nfree,a\ndef,a,0\ndef,b,1\ndef,c,2\n" ∷ [];
      printed = "row,5,0,1,a,b\nrow,6,1,1,b,c\nrows,2\n" ∷ [];
    }
    ∷ []

files_2_listed : AllListed files_2
unfolding lists_them files_2
files_2_listed = (refl, (refl, (refl, (refl, (refl, (refl, (refl, (refl, (refl, (refl, (refl, (refl, (refl, tt)))))))))))))

-- order-own-line-is-1 to order-two-that-use-each-other-one-row
files_3 : List CheckedCase
files_3 =
    record {
      name = "order-own-line-is-1";
      room = 6144;
      file = "ask,0,0\nfree,g\ndef,g,0\n" ∷ [];
      printed = "row,3,0,1,g,g\nrows,1\n" ∷ [];
    }
    ∷ record {
      name = "order-own-name-and-a-hidden-name";
      room = 6144;
      file = "ask,0,0\nhide,h\nfree,g\nfree,h\nop,and,0,1\ndef,g,2\ndef,h,2\n" ∷ [];
      printed = "row,6,1,1,g,g\nrows,1\n" ∷ [];
    }
    ∷ record {
      name = "order-pattern-names-count";
      room = 6144;
      file = "ask,0,0\nfree,x\nleaf\nall,1,1,1,0\ndef,g,2\n" ∷ [];
      printed = "row,5,0,2,g,x\nrows,1\n" ∷ [];
    }
    ∷ record {
      name = "order-refused-line";
      room = 6144;
      file = "ask,0,0\nfree,x\ndef,g,0\ndef,g,0\n" ∷ [];
      printed = "refused,5,4\n" ∷ [];
    }
    ∷ record {
      name = "order-root-and-retain-names-are-2";
      room = 6144;
      file = "ask,0,0\nretain,x\nfree,x\nfree,y\nroot,0,y,0\nop,other,0,1\ndef,g,2\n" ∷ [];
      printed = "row,7,0,2,g,x\nrow,7,1,2,g,y\nrows,2\n" ∷ [];
    }
    ∷ record {
      name = "order-rows-at-several-defs";
      room = 6144;
      file = "ask,0,0\nfree,x\nfree,y\nfree,g\ndef,h,2\nop,other,0,1\ndef,g,3\nop,other,1,2,3\ndef,k,4\nfun,y\n" ∷ [];
      printed = "row,5,2,1,h,g\nrow,7,0,2,g,x\nrow,7,1,1,g,y\nrow,9,0,2,k,x\nrow,9,1,1,k,y\nrows,5\n" ∷ [];
    }
    ∷ record {
      name = "order-rows-by-line-then-name-both-sorts-mixed";
      room = 6144;
      file = "ask,0,0\nfree,d\nfree,c\nfree,b\nfree,a\nop,other,0,1,2,3\ndef,g,4\nfun,d\nfun,b\ndef,k,4\n" ∷ [];
      printed = "row,7,3,2,g,a\nrow,7,2,1,g,b\nrow,7,1,2,g,c\nrow,7,0,1,g,d\nrow,10,3,2,k,a\nrow,10,1,2,k,c\nrows,6\n" ∷ [];
    }
    ∷ record {
      name = "order-starting-macro-is-2";
      room = 6144;
      file = "ask,0,0\nfree,is-BoxProp\ndef,g,0\nfree,BoxProp\ndef,h,1\n" ∷ [];
      printed = "row,3,0,2,g,is-BoxProp\nrow,5,2,2,h,BoxProp\nrows,2\n" ∷ [];
    }
    ∷ record {
      name = "order-term-above-record-below-uses-lines";
      room = 6144;
      file = "ask,0,0\nfree,h\nfun,h\ndef,g,0\n" ∷ [];
      printed = "rows,0\n" ∷ [];
    }
    ∷ record {
      name = "order-the-nine-are-no-row";
      room = 6144;
      file = "ask,0,0\nfree,Prims.lex_t\ncall,HasType,0,0\ndef,g,1\n" ∷ [];
      printed = "rows,0\n" ∷ [];
    }
    ∷ record {
      name = "order-trimmed-token-number-and-a-def-of-it";
      room = 6144;
      file = "ask,0,0\nfree,__uu__PartialApp\nfree,f@tok\ncall,ApplyTT,0,1\ncall,Valid,2\nassume,t,0,3\nfree,x\n"
          ∷ "free,f\nop,other,4,5\ndef,g,6\ndef,f,4\n"
          ∷ [];
      printed = "row,10,5,1,g,f\nrow,10,6,2,g,x\nrow,11,6,2,f,x\nrows,3\n" ∷ [];
    }
    ∷ record {
      name = "order-two-defs-of-one-name-are-5";
      room = 6144;
      file = "ask,0,0\nleaf\ndef,h,0\nfree,h\ndef,g,1\ndef,h,0\n" ∷ [];
      printed = "refused,5,6\n" ∷ [];
    }
    ∷ record {
      name = "order-two-that-use-each-other-one-row";
      room = 6144;
      file = "ask,0,0\nfree,h\nfree,g\ndef,g,0\ndef,h,1\n" ∷ [];
      printed = "row,4,0,1,g,h\nrows,1\n" ∷ [];
    }
    ∷ []

files_3_listed : AllListed files_3
unfolding lists_them files_3
files_3_listed = (refl, (refl, (refl, (refl, (refl, (refl, (refl, (refl, (refl, (refl, (refl, (refl, (refl, tt)))))))))))))

-- tables one row too short and exactly long enough, and refusals of lines before 8
tables : List CheckedCase
tables =
    record {
      name = "rows-by-line-then-name-both-sorts-mixed-one-row-too-short";
      room = 5;
      file = "ask,0,0\nfree,d\nfree,c\nfree,b\nfree,a\nop,other,0,1,2,3\ndef,g,4\nfun,d\nfun,b\ndef,k,4\n" ∷ [];
      printed = "refused,8,6\n" ∷ [];
    }
    ∷ record {
      name = "rows-by-line-then-name-both-sorts-mixed-exactly-long-enough";
      room = 6;
      file = "ask,0,0\nfree,d\nfree,c\nfree,b\nfree,a\nop,other,0,1,2,3\ndef,g,4\nfun,d\nfun,b\ndef,k,4\n" ∷ [];
      printed = "row,7,3,2,g,a\nrow,7,2,1,g,b\nrow,7,1,2,g,c\nrow,7,0,1,g,d\nrow,10,3,2,k,a\nrow,10,1,2,k,c\n"
          ∷ "rows,6\n"
          ∷ [];
    }
    ∷ record {
      name = "own-line-is-1-one-row-too-short";
      room = 0;
      file = "ask,0,0\nfree,g\ndef,g,0\n" ∷ [];
      printed = "refused,8,1\n" ∷ [];
    }
    ∷ record {
      name = "own-line-is-1-exactly-long-enough";
      room = 1;
      file = "ask,0,0\nfree,g\ndef,g,0\n" ∷ [];
      printed = "row,3,0,1,g,g\nrows,1\n" ∷ [];
    }
    ∷ record {
      name = "earlier-def-and-fun-are-no-row-exactly-long-enough";
      room = 0;
      file = "ask,0,0\nleaf\ndef,h,0\nfun,k\nfree,h\nfree,k\nop,other,1,2\ndef,g,3\n" ∷ [];
      printed = "rows,0\n" ∷ [];
    }
    ∷ record {
      name = "refused-line-before-8";
      room = 0;
      file = "ask,0,0\nfree,x\ndef,g,0\nfree\n" ∷ [];
      printed = "refused,1,4\n" ∷ [];
    }
    ∷ record {
      name = "repeated-name-before-8";
      room = 0;
      file = "ask,0,0\nfree,x\ndef,g,0\nfun,g\n" ∷ [];
      printed = "refused,5,4\n" ∷ [];
    }
    ∷ []

tables_listed : AllListed tables
unfolding lists_them tables
tables_listed = (refl, (refl, (refl, (refl, (refl, (refl, (refl, tt)))))))

-- a file with two rows
small : List ℕ
small = text_of ("ask,0,0\nfree,x\nfree,h\nop,and,0,1\ndef,g,2\nfun,h\n" ∷ [])

-- the call with a table of so many rows, the working slices long enough
over : ℕ → Checked
over room = check small (replicate 6 (working 16384)) room

-- a row that stands in the table before
old : Row
old = record { line = 7; number = 8; cause = 9 }

-- a refusal has no rows and touches none; the rows past those listed stay; a short working slice is 7 before 8
table_left :
    (ordered (over 1) ≡ record { verdict = Refused refusal.Room; place = 2; rows = 0 })
    × (ordered (over 2) ≡ record { verdict = Accepted; place = 0; rows = 2 })
    × (ordered (check small (replicate 6 (working 16383)) 0) ≡ record { verdict = Refused refusal.Working; place = 0; rows = 0 })
    × (table_after (over 1) (old ∷ []) ≡ old ∷ [])
    × (table_after (over 2) (old ∷ old ∷ [])
    ≡ record { line = 5; number = 1; cause = 1 } ∷ record { line = 5; number = 0; cause = 2 } ∷ [])
    × (table_after (over 3) (old ∷ old ∷ old ∷ [])
    ≡ record { line = 5; number = 1; cause = 1 } ∷ record { line = 5; number = 0; cause = 2 } ∷ old ∷ [])
unfolding lists_them small over old
table_left = (refl, refl, refl, refl, refl, refl)
