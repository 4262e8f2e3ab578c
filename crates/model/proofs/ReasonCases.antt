-- Document 02, Change 2: files with the rows of a position, shown by computation as F1 to F10 are.
use Prim.Native.Nat.{ℕ}
use Prim.Native.String.{String}
use mathlib.Core.Path.{◌≡◌, refl}
use mathlib.Core.Bool.{Bool, true}
use mathlib.Core.List.{List, [], ◌∷◌, ◌++◌, map}
use lib.ListN.{replicate}
use Rattle.model.specs.Lists
use Rattle.model.specs.Lists.{concat}
use Rattle.model.specs.Names
use Rattle.model.specs.Names.{bytes, same}
use Rattle.model.specs.Summaries.{exclude_names}
use Rattle.model.specs.Reading.{Reading, read_file}
use Rattle.model.specs.Rounds
use Rattle.model.specs.Outcome.{working}
use Rattle.model.specs.Reasons
use Rattle.model.specs.Explaining
use Rattle.model.specs.Explaining.{Explanation, refusal_at, no_position, told, explanation, why, table_after}
use Rattle.model.specs.Text
use Rattle.model.specs.Text.{row_line, count_line}
use Rattle.model.specs.declared.Refusal.TheVariants as refusal
use Rattle.model.specs.declared.Row.{Row}
use Rattle.model.specs.declared.Verdict.TheVariants.{Accepted, Refused}
use Rattle.model.specs.declared.Why.{Why}
use Rattle.model.proofs.Printing.{passes, text_of, name_of, refused_lines}

-- a file by its name: its text, a position, and the text printed of the reasons there, the texts in pieces
record Reasoned : Type 0 where
  name : String
  position : ℕ
  file : List String
  printed : List String

-- the lines printed of what the call comes to
unfoldable shown : List ℕ → Reading → Explanation → Why → List (List ℕ)
shown file found (refusal_at r place) w = refused_lines w.verdict w.place
shown file found no_position w = refused_lines w.verdict w.place
shown file found (told given met) w =
    map (λ r. row_line file (name_of found r.number) r) given
    ++ (count_line (bytes "met") w.met ∷ count_line (bytes "rows") w.rows ∷ [])

-- whether the definitions print of the file what it says, over slices that are long enough
unfoldable explains : Reasoned → Bool
unfolding passes text_of name_of refused_lines shown Text.bytes_on Text.name_in_fields Text.item_on Text.row_numbers Text.row_fields Text.row_line
    Text.count_line Lists.find_index Names.name_number Rounds.states_from Rounds.history
    Rounds.end_of Rounds.round_of Reasons.first_items Reasons.reached_items Reasons.scanned_items Reasons.earlier Reasons.sooner
    Reasons.earliest Reasons.supplier Reasons.met_listed Reasons.rows_of Reasons.rows Reasons.met_bits Reasons.met_number
    Explaining.nth_ask Explaining.reasons Explaining.explained Explaining.explanation Explaining.why Explaining.table_after
explains c =
    let file = text_of c.file in
    let e = explanation file c.position (replicate 6 (working 16384)) 2048 in
    same (concat (shown file (read_file exclude_names file) e (why e))) (text_of c.printed)

-- that they do of each file
abbrev AllExplained : List Reasoned → Type 0
AllExplained [] = Unit {0}
AllExplained (c ∷ cs) = (explains c ≡ true) × AllExplained cs

-- F10 to met-counts-numbered-names-only
files_1 : List Reasoned
files_1 =
    record {
      name = "F10";
      position = 1;
      file = "ask,0,4\nfree,p\nfree,q\ncall,f,0\nall,2,1,1,2\nassume,a1,0,3\nfun,f\ndef,g,1\ncall,g\n"
          ∷ "op,eq,4,1\nassume,e1,0,5\nop,and,2,4\nroot,0,r,6\n"
          ∷ [];
      printed = "row,6,2,13,a1,f,r\nrow,6,0,13,a1,p,r\nrow,11,4,13,e1,g,r\nrow,11,1,13,e1,q,r\nmet,4\nrows,4\n" ∷ [];
    }
    ∷ record {
      name = "also-rows-are-of-the-fresh-run";
      position = 2;
      file = "ask,0,0\nalso,1\nfree,p\nfree,q\nop,eq,0,1\nassume,a,0,2\nop,eq,1,1\nassume,b,0,3\nroot,0,r,0\n"
          ∷ "root,1,r,1\n"
          ∷ [];
      printed = "row,6,0,9,a,p,r\nrow,6,1,10,a,q,r\nrow,8,1,10,b,q,r\nmet,2\nrows,3\n" ∷ [];
    }
    ∷ record {
      name = "ambient-root-supplies-in-round-0";
      position = 1;
      file = "ask,0,0\nfree,p\nfree,Tm_refine_1\ncall,HasType,0,1\nassume,h,0,2\nop,eq,0,0\nassume,a,0,3\n"
          ∷ "root,0,r,0\n"
          ∷ [];
      printed = "row,7,0,5,a,p,h\nmet,2\nrows,1\n" ∷ [];
    }
    ∷ record {
      name = "ask-rows-of-the-same-file";
      position = 1;
      file = "ask,0,0\nalso,1\nfree,p\nfree,q\nop,eq,0,1\nassume,a,0,2\nop,eq,1,1\nassume,b,0,3\nroot,0,r,0\n"
          ∷ "root,1,r,1\n"
          ∷ [];
      printed = "row,6,0,9,a,p,r\nrow,8,1,6,b,q,a\nmet,2\nrows,2\n" ∷ [];
    }
    ∷ record {
      name = "both-tokens-met-two-rows-in-byte-order";
      position = 1;
      file = "ask,0,0\nfree,__uu__PartialApp\nfree,f@tok\ncall,ApplyTT,0,1\ncall,Valid,2\nassume,t,0,3\n"
          ∷ "free,f\nop,and,4,1\nroot,0,r,5\n"
          ∷ [];
      printed = "row,6,5,9,t,f,r\nrow,6,1,9,t,f@tok,r\nmet,3\nrows,2\n" ∷ [];
    }
    ∷ record {
      name = "empty-trimmed-token-is-numbered";
      position = 1;
      file = "ask,0,0\nfree,__uu__PartialApp\nfree,@tok\ncall,ApplyTT,0,1\ncall,Valid,2\nassume,t,0,3\n"
          ∷ "free,p\nop,eq,4,4\nassume,a,0,5\nroot,0,r,4\n"
          ∷ [];
      printed = "row,9,6,10,a,p,r\nmet,1\nrows,1\n" ∷ [];
    }
    ∷ record {
      name = "hide-name-is-numbered-first";
      position = 1;
      file = "ask,0,0\nhide,w\nfree,p\nop,eq,0,0\nassume,a,0,1\nroot,0,r,0\n" ∷ [];
      printed = "row,5,1,6,a,p,r\nmet,1\nrows,1\n" ∷ [];
    }
    ∷ record {
      name = "higher-round-on-a-lower-line-supplies-not";
      position = 1;
      file = "ask,0,0\nfree,p\nfree,q\nfree,s\nfree,v\nop,and,2,3\nall,4,1,1,1\nassume,a,0,5\nop,and,1,2\n"
          ∷ "all,6,1,1,0\nassume,c,0,7\nleaf\nall,8,1,2,2,3\nassume,d,0,9\nroot,0,r,0\n"
          ∷ [];
      printed = "row,8,1,11,a,q,c\nrow,11,0,15,c,p,r\nrow,14,2,11,d,s,c\nrow,14,3,8,d,v,a\nmet,4\nrows,4\n" ∷ [];
    }
    ∷ record {
      name = "listed-name-met-in-its-round-through-another-disjunct";
      position = 1;
      file = "ask,0,0\nfree,p\nfree,q\nfree,s\nop,and,0,1\nleaf\nall,4,2,1,0,2,1,2\nassume,a,0,5\n"
          ∷ "root,0,r,3\n"
          ∷ [];
      printed = "row,8,0,9,a,p,r\nrow,8,1,9,a,q,r\nmet,3\nrows,2\n" ∷ [];
    }
    ∷ record {
      name = "listed-name-not-met-has-no-row";
      position = 1;
      file = "ask,0,0\nfree,p\nfree,q\nfree,s\nop,and,0,2\nall,0,2,1,0,1,1\nassume,a,0,4\nroot,0,r,3\n" ∷ [];
      printed = "row,7,0,8,a,p,r\nmet,3\nrows,1\n" ∷ [];
    }
    ∷ record {
      name = "met-counts-numbered-names-only";
      position = 1;
      file = "ask,0,0\nfree,is-BoxInt\nroot,0,r,0\n" ∷ [];
      printed = "met,1\nrows,0\n" ∷ [];
    }
    ∷ []

files_1_explained : AllExplained files_1
unfolding explains files_1
files_1_explained = (refl, (refl, (refl, (refl, (refl, (refl, (refl, (refl, (refl, (refl, (refl, tt)))))))))))

-- name-in-two-disjuncts-has-one-row to trimmed-token-shifts-later-names
files_2 : List Reasoned
files_2 =
    record {
      name = "name-in-two-disjuncts-has-one-row";
      position = 1;
      file = "ask,0,0\nfree,p\nop,eq,0,0\nassume,a,0,1\nroot,0,r,0\n" ∷ [];
      printed = "row,4,0,5,a,p,r\nmet,1\nrows,1\n" ∷ [];
    }
    ∷ record {
      name = "no-name-met";
      position = 1;
      file = "ask,9,0\nfree,p\nfree,q\nop,eq,0,0\nassume,a,0,2\nop,eq,1,1\nassume,b,0,3\nroot,0,r,0\n"
          ∷ "root,1,r,1\n"
          ∷ [];
      printed = "met,0\nrows,0\n" ∷ [];
    }
    ∷ record {
      name = "position-0-is-15";
      position = 0;
      file = "ask,0,0\nfree,p\nfree,q\nop,eq,0,0\nassume,a,0,2\nop,eq,1,1\nassume,b,0,3\nroot,0,r,0\n"
          ∷ "root,1,r,1\n"
          ∷ [];
      printed = "refused,15,0\n" ∷ [];
    }
    ∷ record {
      name = "position-past-the-last-is-15";
      position = 3;
      file = "ask,0,0\nalso,1\nfree,p\nfree,q\nop,eq,0,0\nassume,a,0,2\nop,eq,1,1\nassume,b,0,3\nroot,0,r,0\n"
          ∷ "root,1,r,1\n"
          ∷ [];
      printed = "refused,15,0\n" ∷ [];
    }
    ∷ record {
      name = "pretyping-fact-has-no-row";
      position = 1;
      file = "ask,0,0\nfree,p\nop,eq,0,0\nassume,a,1,1\nroot,0,r,0\n" ∷ [];
      printed = "met,1\nrows,0\n" ∷ [];
    }
    ∷ record {
      name = "rows-by-fact-name-then-listed-name";
      position = 1;
      file = "ask,0,0\nfree,z\nfree,Y\nop,eq,0,1\nassume,b,0,2\nassume,a,0,2\nop,and,0,1\nroot,0,r,3\n" ∷ [];
      printed = "row,6,1,8,a,Y,r\nrow,6,0,8,a,z,r\nrow,5,1,8,b,Y,r\nrow,5,0,8,b,z,r\nmet,2\nrows,4\n" ∷ [];
    }
    ∷ record {
      name = "starting-macro-opened-the-item-supplies";
      position = 1;
      file = "ask,0,0\nfree,is-BoxInt\nfree,BoxInt\nop,eq,1,1\nassume,a,0,2\nroot,0,r,0\n" ∷ [];
      printed = "row,5,1,6,a,BoxInt,r\nmet,2\nrows,1\n" ∷ [];
    }
    ∷ record {
      name = "supplier-of-the-lowest-line-in-a-round";
      position = 1;
      file = "ask,0,0\nfree,p\nop,eq,0,0\nassume,a,0,1\nroot,0,r,0\nroot,0,s,0\n" ∷ [];
      printed = "row,4,0,5,a,p,r\nmet,1\nrows,1\n" ∷ [];
    }
    ∷ record {
      name = "supplier-of-the-lowest-round-before-the-lowest-line";
      position = 1;
      file = "ask,0,0\nfree,p\nfree,q\nfree,s\nop,eq,0,1\nassume,a,0,3\nop,and,1,2\nall,1,1,2,1,2\n"
          ∷ "assume,b,0,5\nroot,0,r,0\nroot,0,r,4\n"
          ∷ [];
      printed = "row,6,0,10,a,p,r\nrow,6,1,11,a,q,r\nrow,9,1,11,b,q,r\nrow,9,2,11,b,s,r\nmet,3\nrows,4\n" ∷ [];
    }
    ∷ record {
      name = "trimmed-token-numbered-after-its-facts-line";
      position = 1;
      file = "ask,0,0\nfree,__uu__PartialApp\nfree,f@tok\ncall,ApplyTT,0,1\ncall,Valid,2\nassume,t,0,3\n"
          ∷ "free,f\nroot,0,r,4\n"
          ∷ [];
      printed = "row,6,5,8,t,f,r\nmet,3\nrows,1\n" ∷ [];
    }
    ∷ record {
      name = "trimmed-token-shifts-later-names";
      position = 1;
      file = "ask,0,0\nfree,__uu__PartialApp\nfree,f@tok\ncall,ApplyTT,0,1\ncall,Valid,2\nassume,t,0,3\n"
          ∷ "free,p\nop,eq,4,4\nassume,a,0,5\nroot,0,r,4\n"
          ∷ [];
      printed = "row,9,6,10,a,p,r\nmet,1\nrows,1\n" ∷ [];
    }
    ∷ []

files_2_explained : AllExplained files_2
unfolding explains files_2
files_2_explained = (refl, (refl, (refl, (refl, (refl, (refl, (refl, (refl, (refl, (refl, (refl, tt)))))))))))

-- fact-not-admitted-has-no-row to supplier-of-the-lowest-line-among-facts-of-a-round
files_3 : List Reasoned
files_3 =
    record {
      name = "fact-not-admitted-has-no-row";
      position = 1;
      file = "ask2,0,0,1\nfree,p\nop,eq,0,0\nassume,a,0,0,1\nassume,b,0,1,1\nroot,0,r,0\n" ∷ [];
      printed = "row,4,0,6,a,p,r\nmet,1\nrows,1\n" ∷ [];
    }
    ∷ record {
      name = "listed-name-met-after-its-round-has-no-row";
      position = 1;
      file = "ask,0,0\nfree,p\nfree,q\nall,1,2,1,0,1,1\nassume,a,0,2\nroot,0,r,0\n" ∷ [];
      printed = "row,5,0,6,a,p,r\nmet,2\nrows,1\n" ∷ [];
    }
    ∷ record {
      name = "macro-opened-the-item-supplies-not-the-def";
      position = 1;
      file = "ask,0,0\nfree,g\nfree,k\ndef,g,1\nop,eq,1,1\nassume,a,0,2\nroot,0,r,0\n" ∷ [];
      printed = "row,6,1,7,a,k,r\nmet,2\nrows,1\n" ∷ [];
    }
    ∷ record {
      name = "options-1-no-ambient-root-supplies";
      position = 1;
      file = "ask,0,1\nfree,p\nfree,Tm_refine_1\ncall,HasType,0,1\nassume,h,0,2\nop,eq,0,0\nassume,a,0,3\n"
          ∷ "root,0,r,0\n"
          ∷ [];
      printed = "row,7,0,8,a,p,r\nmet,1\nrows,1\n" ∷ [];
    }
    ∷ record {
      name = "refused-line-before-15";
      position = 9;
      file = "ask,0,0\nfree\n" ∷ [];
      printed = "refused,1,2\n" ∷ [];
    }
    ∷ record {
      name = "root-below-an-ambient-root-supplies";
      position = 1;
      file = "ask,0,0\nfree,p\nroot,0,r,0\nfree,Tm_refine_1\ncall,HasType,0,1\nassume,h,0,2\nop,eq,0,0\n"
          ∷ "assume,a,0,3\n"
          ∷ [];
      printed = "row,8,0,3,a,p,r\nmet,2\nrows,1\n" ∷ [];
    }
    ∷ record {
      name = "supplier-of-the-lowest-line-among-facts-of-a-round";
      position = 1;
      file = "ask,0,0\nfree,p\nfree,q\nall,1,1,1,0\nassume,z,0,2\nassume,y,0,2\nleaf\nall,3,1,1,1\n"
          ∷ "assume,a,0,4\nroot,0,r,0\n"
          ∷ [];
      printed = "row,9,1,5,a,q,z\nrow,6,0,10,y,p,r\nrow,5,0,10,z,p,r\nmet,2\nrows,3\n" ∷ [];
    }
    ∷ []

files_3_explained : AllExplained files_3
unfolding explains files_3
files_3_explained = (refl, (refl, (refl, (refl, (refl, (refl, (refl, tt)))))))

-- why-16th-position to why-hidden-token-met-through-a-starting-macro-alone
files_4 : List Reasoned
files_4 =
    record {
      name = "why-16th-position";
      position = 16;
      file = "ask,1,0\nask,1,0\nask,1,0\nask,1,0\nask,1,0\nask,1,0\nask,1,0\nask,1,0\nask,1,0\nask,1,0\nask,1,0\n"
          ∷ "ask,1,0\nask,1,0\nask,1,0\nask,1,0\nask,0,0\nfree,p\nop,eq,0,0\nassume,a,0,1\nroot,0,r,0\n"
          ∷ [];
      printed = "row,19,0,20,a,p,r\nmet,1\nrows,1\n" ∷ [];
    }
    ∷ record {
      name = "why-17th-position-is-15";
      position = 17;
      file = "ask,0,0\nask,0,0\nask,0,0\nask,0,0\nask,0,0\nask,0,0\nask,0,0\nask,0,0\nask,0,0\nask,0,0\nask,0,0\n"
          ∷ "ask,0,0\nask,0,0\nask,0,0\nask,0,0\nask,0,0\nfree,p\nop,eq,0,0\nassume,a,0,1\nroot,0,r,0\n"
          ∷ [];
      printed = "refused,15,0\n" ∷ [];
    }
    ∷ record {
      name = "why-also-line-of-three-with-the-groups-of-its-ask";
      position = 3;
      file = "ask2,0,0,2\nalso,1\nalso,2\nfree,p\nfree,q\nfree,s\nop,eq,0,1\nassume,a,0,0,3\nassume,b,0,1,3\n"
          ∷ "op,eq,1,2\nassume,c,0,1,4\nroot,0,r,0\nroot,1,r,1\nroot,2,r,2\n"
          ∷ [];
      printed = "row,9,0,12,b,p,r\nrow,9,1,13,b,q,r\nrow,11,1,13,c,q,r\nrow,11,2,14,c,s,r\nmet,3\nrows,4\n" ∷ [];
    }
    ∷ record {
      name = "why-ambient-without-root-supplies-nothing";
      position = 1;
      file = "ask,0,0\nfree,p\nfree,q\nop,other,0,1\nassume,h,0,2\nop,eq,1,1\nassume,a,0,3\nroot,0,r,0\n" ∷ [];
      printed = "met,1\nrows,0\n" ∷ [];
    }
    ∷ record {
      name = "why-fact-of-a-lower-round-opens-what-a-lower-line-has-free";
      position = 1;
      file = "ask,0,0\nfree,p\nfree,q\nfree,k\nfree,g\ndef,g,2\nop,and,0,2\nall,4,1,1,1\nassume,a,0,5\nop,and,1,3\n"
          ∷ "all,6,1,1,0\nassume,b,0,7\nleaf\nall,8,1,1,2\nassume,c,0,9\nroot,0,r,0\n"
          ∷ [];
      printed = "row,9,1,12,a,q,b\nrow,12,0,16,b,p,r\nrow,15,2,12,c,k,b\nmet,4\nrows,3\n" ∷ [];
    }
    ∷ record {
      name = "why-fact-waits-for-a-name-of-a-later-round";
      position = 1;
      file = "ask,0,0\nfree,p\nfree,q\nfree,s\nall,2,1,2,0,1\nassume,a,0,3\nall,1,1,1,0\nassume,b,0,4\nleaf\n"
          ∷ "all,5,1,1,2\nassume,c,0,6\nroot,0,r,0\n"
          ∷ [];
      printed = "row,6,0,12,a,p,r\nrow,6,1,8,a,q,b\nrow,8,0,12,b,p,r\nrow,11,2,6,c,s,a\nmet,3\nrows,4\n" ∷ [];
    }
    ∷ record {
      name = "why-fires-by-an-empty-disjunct-row-for-the-name-met";
      position = 1;
      file = "ask,0,0\nfree,p\nfree,q\nleaf\nall,2,2,0,2,0,1\nassume,a,0,3\nroot,0,r,0\n" ∷ [];
      printed = "row,6,0,7,a,p,r\nmet,2\nrows,1\n" ∷ [];
    }
    ∷ record {
      name = "why-free-on-a-lower-line-than-opened";
      position = 1;
      file = "ask,0,0\nfree,k\nfree,g\ndef,g,0\nleaf\nall,2,1,1,0\nassume,a,0,3\nroot,0,r1,0\nroot,0,r2,1\n" ∷ [];
      printed = "row,7,0,8,a,k,r1\nmet,2\nrows,1\n" ∷ [];
    }
    ∷ record {
      name = "why-hidden-name-has-no-row";
      position = 1;
      file = "ask,0,0\nhide,q\nfree,p\nfree,q\nop,eq,0,1\nassume,a,0,2\nop,and,0,1\nroot,0,r,3\n" ∷ [];
      printed = "row,6,1,8,a,p,r\nmet,1\nrows,1\n" ∷ [];
    }
    ∷ record {
      name = "why-hidden-token-met-through-a-starting-macro-alone";
      position = 1;
      file = "ask,0,0\nhide,BoxReal\nfree,__uu__PartialApp\nfree,BoxReal\ncall,ApplyTT,0,1\ncall,Valid,2\n"
          ∷ "assume,t,0,3\nfree,is-BoxReal\nfree,BoxReal\nop,and,4,5\nroot,0,r,6\n"
          ∷ [];
      printed = "row,7,0,11,t,BoxReal,r\nmet,3\nrows,1\n" ∷ [];
    }
    ∷ []

files_4_explained : AllExplained files_4
unfolding explains files_4
files_4_explained = (refl, (refl, (refl, (refl, (refl, (refl, (refl, (refl, (refl, (refl, tt))))))))))

-- why-listed-name-of-a-fact-of-the-same-round-has-no-row to why-retain-and-root-names-are-numbered
files_5 : List Reasoned
files_5 =
    record {
      name = "why-listed-name-of-a-fact-of-the-same-round-has-no-row";
      position = 1;
      file = "ask,0,0\nfree,p\nfree,q\nop,and,0,1\nall,2,2,1,0,1,1\nassume,a,0,3\nall,1,1,1,0\nassume,b,0,4\n"
          ∷ "root,0,r,0\n"
          ∷ [];
      printed = "row,6,0,9,a,p,r\nrow,8,0,9,b,p,r\nmet,2\nrows,2\n" ∷ [];
    }
    ∷ record {
      name = "why-macro-is-met-and-numbered";
      position = 1;
      file = "ask,0,0\nfree,g\nfree,k\nfree,m\nop,and,1,2\ndef,g,3\nop,eq,0,1\nassume,a,0,4\nroot,0,r,0\n" ∷ [];
      printed = "row,8,0,9,a,g,r\nrow,8,1,9,a,k,r\nmet,3\nrows,2\n" ∷ [];
    }
    ∷ record {
      name = "why-macros-open-one-level";
      position = 1;
      file = "ask,0,0\nfree,g\nfree,h\nfree,k\ndef,g,1\ndef,h,2\nop,eq,1,2\nassume,a,0,3\nroot,0,r,0\n" ∷ [];
      printed = "row,8,1,9,a,h,r\nmet,3\nrows,1\n" ∷ [];
    }
    ∷ record {
      name = "why-names-that-are-prefixes-in-byte-order";
      position = 1;
      file = "ask,0,0\nfree,pq\nfree,p\nfree,!\nfree,~\nop,and,0,1,2,3\nleaf\nall,5,1,4,0,1,2,3\nassume,ab,0,6\n"
          ∷ "assume,a,0,6\nroot,0,r,4\n"
          ∷ [];
      printed = "row,10,2,11,a,!,r\nrow,10,1,11,a,p,r\nrow,10,0,11,a,pq,r\nrow,10,3,11,a,~,r\nrow,9,2,11,ab,!,r\n"
          ∷ "row,9,1,11,ab,p,r\nrow,9,0,11,ab,pq,r\nrow,9,3,11,ab,~,r\nmet,4\nrows,8\n"
          ∷ [];
    }
    ∷ record {
      name = "why-opened-and-free-in-facts-of-a-round";
      position = 1;
      file = "ask,0,0\nfree,p\nfree,k\nfree,g\ndef,g,1\nall,2,1,1,0\nassume,z,0,3\nall,1,1,1,0\nassume,b,0,4\nleaf\n"
          ∷ "all,5,1,1,1\nassume,a,0,6\nroot,0,r,0\n"
          ∷ [];
      printed = "row,12,1,7,a,k,z\nrow,9,0,13,b,p,r\nrow,7,0,13,z,p,r\nmet,3\nrows,3\n" ∷ [];
    }
    ∷ record {
      name = "why-opened-on-a-lower-line-than-free";
      position = 1;
      file = "ask,0,0\nfree,k\nfree,g\ndef,g,0\nleaf\nall,2,1,1,0\nassume,a,0,3\nroot,0,r1,1\nroot,0,r2,0\n" ∷ [];
      printed = "row,7,0,8,a,k,r1\nmet,2\nrows,1\n" ∷ [];
    }
    ∷ record {
      name = "why-options-12-change-no-row";
      position = 1;
      file = "ask,0,12\nfree,p\nfree,q\nfun,q\ndef,g,1\nfree,g\nop,eq,0,2\nassume,a,0,3\nroot,0,r,0\n" ∷ [];
      printed = "row,8,0,9,a,p,r\nmet,3\nrows,1\n" ∷ [];
    }
    ∷ record {
      name = "why-pretyping-fact-supplies-nothing";
      position = 1;
      file = "ask,0,0\nfree,p\nfree,q\nall,1,1,1,0\nassume,a,1,2\nleaf\nall,3,1,1,1\nassume,b,0,4\nroot,0,r,0\n" ∷ [];
      printed = "met,1\nrows,0\n" ∷ [];
    }
    ∷ record {
      name = "why-pretyping-fact-with-option-2-has-rows-and-supplies";
      position = 1;
      file = "ask,0,2\nfree,p\nfree,q\nall,1,1,1,0\nassume,a,1,2\nleaf\nall,3,1,1,1\nassume,b,0,4\nroot,0,r,0\n" ∷ [];
      printed = "row,5,0,9,a,p,r\nrow,8,1,5,b,q,a\nmet,2\nrows,2\n" ∷ [];
    }
    ∷ record {
      name = "why-retain-and-root-names-are-numbered";
      position = 1;
      file = "ask,0,0\nretain,z,y\nfree,p\nroot,0,x,0\nop,eq,0,0\nfree,w\nassume,a,0,1\nop,eq,2,2\nassume,b,0,3\n"
          ∷ "root,0,v,2\n"
          ∷ [];
      printed = "row,7,2,4,a,p,x\nrow,9,4,10,b,w,v\nmet,2\nrows,2\n" ∷ [];
    }
    ∷ []

files_5_explained : AllExplained files_5
unfolding explains files_5
files_5_explained = (refl, (refl, (refl, (refl, (refl, (refl, (refl, (refl, (refl, (refl, tt))))))))))

-- why-token-is-its-facts-name to why-trimmed-token-not-met-where-a-def-replaces-the-macro
files_6 : List Reasoned
files_6 =
    record {
      name = "why-token-is-its-facts-name";
      position = 1;
      file = "ask,0,0\nfree,__uu__PartialApp\nfree,f@tok\ncall,ApplyTT,0,1\ncall,Valid,2\nassume,f@tok,0,3\nfree,p\n"
          ∷ "op,eq,4,4\nassume,a,0,5\nfree,f\nop,and,4,6\nroot,0,r,7\n"
          ∷ [];
      printed = "row,9,5,12,a,p,r\nrow,6,4,12,f@tok,f,r\nmet,4\nrows,2\n" ∷ [];
    }
    ∷ record {
      name = "why-token-not-trimmed-by-an-assumption_-fact";
      position = 1;
      file = "ask,0,0\nfree,__uu__PartialApp\nfree,f@tok\ncall,ApplyTT,0,1\ncall,Valid,2\nassume,assumption_t,0,3\n"
          ∷ "free,p\nop,eq,4,4\nassume,a,0,5\nop,and,1,4,0\nroot,0,r,6\n"
          ∷ [];
      printed = "row,9,5,11,a,p,r\nrow,6,0,11,assumption_t,__uu__PartialApp,r\nrow,6,1,11,assumption_t,f@tok,r\nmet,3\n"
          ∷ "rows,3\n"
          ∷ [];
    }
    ∷ record {
      name = "why-token-of-a-fact-admitted-by-the-second-ask";
      position = 2;
      file = "ask2,0,0,1\nask2,0,0,2\nfree,__uu__PartialApp\nfree,f@tok\ncall,ApplyTT,0,1\ncall,Valid,2\n"
          ∷ "assume,t,0,1,3\nfree,f\nop,eq,4,4\nassume,a,0,0,5\nroot,0,r,4\n"
          ∷ [];
      printed = "row,7,5,11,t,f,r\nmet,3\nrows,1\n" ∷ [];
    }
    ∷ record {
      name = "why-token-of-a-fact-not-admitted-is-met";
      position = 1;
      file = "ask2,0,0,1\nask2,0,0,2\nfree,__uu__PartialApp\nfree,f@tok\ncall,ApplyTT,0,1\ncall,Valid,2\n"
          ∷ "assume,t,0,1,3\nfree,f\nop,eq,4,4\nassume,a,0,0,5\nroot,0,r,4\n"
          ∷ [];
      printed = "row,10,5,11,a,f,r\nmet,1\nrows,1\n" ∷ [];
    }
    ∷ record {
      name = "why-token-of-a-fact-not-admitted-shifts-later-names";
      position = 1;
      file = "ask2,0,0,1\nfree,__uu__PartialApp\nfree,f@tok\ncall,ApplyTT,0,1\ncall,Valid,2\nassume,t,0,1,3\nfree,p\n"
          ∷ "op,eq,4,4\nassume,a,0,0,5\nroot,0,r,4\n"
          ∷ [];
      printed = "row,9,6,10,a,p,r\nmet,1\nrows,1\n" ∷ [];
    }
    ∷ record {
      name = "why-token-of-an-assumption_-fact-trimmed-by-another-fact";
      position = 1;
      file = "ask,0,0\nfree,__uu__PartialApp\nfree,f@tok\ncall,ApplyTT,0,1\ncall,Valid,2\nassume,assumption_t,0,3\n"
          ∷ "fun,p\nassume,t,0,3\nfree,f\nroot,0,r,4\n"
          ∷ [];
      printed = "row,6,0,8,assumption_t,__uu__PartialApp,t\nrow,6,1,8,assumption_t,f@tok,t\nrow,8,7,10,t,f,r\nmet,3\n"
          ∷ "rows,3\n"
          ∷ [];
    }
    ∷ record {
      name = "why-token-without-ending-is-its-facts-name";
      position = 1;
      file = "ask,0,0\nfree,__uu__PartialApp\nfree,t\ncall,ApplyTT,0,1\ncall,Valid,2\nassume,t,0,3\nroot,0,r,1\n" ∷ [];
      printed = "row,6,1,7,t,t,r\nmet,2\nrows,1\n" ∷ [];
    }
    ∷ record {
      name = "why-trimmed-token-is-its-facts-name";
      position = 1;
      file = "ask,0,0\nfree,__uu__PartialApp\nfree,f@tok\ncall,ApplyTT,0,1\ncall,Valid,2\nassume,f,0,3\nfree,p\n"
          ∷ "op,eq,4,4\nassume,a,0,5\ncall,f,4\nroot,0,r,6\n"
          ∷ [];
      printed = "row,9,5,11,a,p,r\nrow,6,4,11,f,f,r\nmet,4\nrows,2\n" ∷ [];
    }
    ∷ record {
      name = "why-trimmed-token-met-through-a-starting-macro-alone";
      position = 1;
      file = "ask,0,0\nfree,__uu__PartialApp\nfree,BoxInt@tok\ncall,ApplyTT,0,1\ncall,Valid,2\nassume,t,0,3\n"
          ∷ "free,is-BoxInt\nroot,0,r,4\n"
          ∷ [];
      printed = "row,6,5,8,t,BoxInt,r\nmet,4\nrows,1\n" ∷ [];
    }
    ∷ record {
      name = "why-trimmed-token-not-met-where-a-def-replaces-the-macro";
      position = 1;
      file = "ask,0,0\nfree,__uu__PartialApp\nfree,BoxInt@tok\ncall,ApplyTT,0,1\ncall,Valid,2\nassume,t,0,3\nfree,p\n"
          ∷ "def,is-BoxInt,4\nfree,is-BoxInt\nroot,0,r,5\n"
          ∷ [];
      printed = "met,2\nrows,0\n" ∷ [];
    }
    ∷ []

files_6_explained : AllExplained files_6
unfolding explains files_6
files_6_explained = (refl, (refl, (refl, (refl, (refl, (refl, (refl, (refl, (refl, (refl, tt))))))))))

-- why-also-line-of-an-earlier-query to why-two-tokens-trimmed-to-one-name
files_7 : List Reasoned
files_7 =
    record {
      name = "why-also-line-of-an-earlier-query";
      position = 3;
      file = "ask,0,0\nalso,1\nalso,0\nfree,p\nfree,q\nop,eq,0,1\nassume,a,0,2\nroot,0,r,0\nroot,1,s,1\n" ∷ [];
      printed = "row,7,0,8,a,p,r\nrow,7,1,9,a,q,s\nmet,2\nrows,2\n" ∷ [];
    }
    ∷ record {
      name = "why-also-line-of-the-query-of-its-ask";
      position = 2;
      file = "ask,0,0\nalso,0\nfree,p\nfree,q\nall,1,1,1,0\nassume,b,0,2\nleaf\nall,3,1,1,1\nassume,a,0,4\n"
          ∷ "root,0,r,0\n"
          ∷ [];
      printed = "row,9,1,6,a,q,b\nrow,6,0,10,b,p,r\nmet,2\nrows,2\n" ∷ [];
    }
    ∷ record {
      name = "why-ambient-root-admitted-by-the-second-ask-supplies";
      position = 2;
      file = "ask2,0,0,2\nask2,0,0,3\nfree,p\nfree,Tm_refine_1\ncall,HasType,0,1\nassume,h,0,0,2\nop,eq,0,0\n"
          ∷ "assume,a,0,1,3\nroot,0,r,0\n"
          ∷ [];
      printed = "row,8,0,6,a,p,h\nmet,2\nrows,1\n" ∷ [];
    }
    ∷ record {
      name = "why-ambient-root-not-admitted-supplies-nothing";
      position = 1;
      file = "ask2,0,0,2\nask2,0,0,3\nfree,p\nfree,Tm_refine_1\ncall,HasType,0,1\nassume,h,0,0,2\nop,eq,0,0\n"
          ∷ "assume,a,0,1,3\nroot,0,r,0\n"
          ∷ [];
      printed = "row,8,0,9,a,p,r\nmet,1\nrows,1\n" ∷ [];
    }
    ∷ record {
      name = "why-hidden-macro-opens-nothing";
      position = 1;
      file = "ask,0,0\nhide,g\nfree,g\nfree,k\ndef,g,1\nop,eq,1,1\nassume,a,0,2\nroot,0,r,0\nroot,0,s,1\n" ∷ [];
      printed = "row,7,1,9,a,k,s\nmet,1\nrows,1\n" ∷ [];
    }
    ∷ record {
      name = "why-hidden-starting-macro-opens-nothing";
      position = 1;
      file = "ask,0,0\nhide,is-BoxInt\nfree,is-BoxInt\nfree,BoxInt\nop,eq,1,1\nassume,a,0,2\nroot,0,r,0\nroot,0,s,1\n" ∷ [];
      printed = "row,6,1,8,a,BoxInt,s\nmet,1\nrows,1\n" ∷ [];
    }
    ∷ record {
      name = "why-hidden-token-alone-meets-nothing";
      position = 1;
      file = "ask,0,0\nhide,f@tok\nfree,__uu__PartialApp\nfree,f@tok\ncall,ApplyTT,0,1\ncall,Valid,2\nassume,t,0,3\n"
          ∷ "root,0,r,1\n"
          ∷ [];
      printed = "met,0\nrows,0\n" ∷ [];
    }
    ∷ record {
      name = "why-hidden-token-has-no-row-its-trimmed-name-has";
      position = 1;
      file = "ask,0,0\nhide,f@tok\nfree,__uu__PartialApp\nfree,f@tok\ncall,ApplyTT,0,1\ncall,Valid,2\nassume,t,0,3\n"
          ∷ "free,f\nop,and,4,1\nroot,0,r,5\n"
          ∷ [];
      printed = "row,7,5,10,t,f,r\nmet,2\nrows,1\n" ∷ [];
    }
    ∷ record {
      name = "why-hidden-trimmed-name-has-no-row-its-token-has";
      position = 1;
      file = "ask,0,0\nhide,f\nfree,__uu__PartialApp\nfree,f@tok\ncall,ApplyTT,0,1\ncall,Valid,2\nassume,t,0,3\n"
          ∷ "free,f\nop,and,4,1\nroot,0,r,5\n"
          ∷ [];
      printed = "row,7,2,10,t,f@tok,r\nmet,2\nrows,1\n" ∷ [];
    }
    ∷ record {
      name = "why-hidden-trimmed-name-met-through-a-starting-macro";
      position = 1;
      file = "ask,0,0\nhide,BoxInt\nhide,BoxInt@tok\nfree,__uu__PartialApp\nfree,BoxInt@tok\ncall,ApplyTT,0,1\n"
          ∷ "call,Valid,2\nassume,t,0,3\nfree,is-BoxInt\nop,and,4,1\nroot,0,r,5\n"
          ∷ [];
      printed = "row,8,0,11,t,BoxInt,r\nmet,3\nrows,1\n" ∷ [];
    }
    ∷ record {
      name = "why-two-tokens-trimmed-to-one-name";
      position = 1;
      file = "ask,0,0\nfree,__uu__PartialApp\nfree,f@tok\ncall,ApplyTT,0,1\ncall,Valid,2\nassume,u,0,3\ncall,f@tok\n"
          ∷ "call,ApplyTT,0,4\ncall,Valid,5\nassume,t,0,6\nall,1,1,1,1\nassume,v,0,7\nfree,f\nroot,0,r,8\n"
          ∷ [];
      printed = "row,10,5,14,t,f,r\nrow,6,5,14,u,f,r\nrow,12,1,6,v,f@tok,u\nmet,3\nrows,3\n" ∷ [];
    }
    ∷ []

files_7_explained : AllExplained files_7
unfolding explains files_7
files_7_explained = (refl, (refl, (refl, (refl, (refl, (refl, (refl, (refl, (refl, (refl, (refl, tt)))))))))))

-- a file with one row, at position 1
small : List ℕ
small = text_of ("ask,0,0\nfree,p\nop,eq,0,0\nassume,a,0,1\nroot,0,r,0\n" ∷ [])

-- the call with a table of so many rows, the working slices long enough
over : ℕ → ℕ → Explanation
over position table = explanation small position (replicate 6 (working 16384)) table

-- a row that stands in the table before
old : Row
old = record { line = 7; number = 8; cause = 9 }

-- 7: a table below 2,048 rows, before 15; a refusal has both counts 0 and touches no row; the rows past those filled stay
table_left :
    (why (over 0 2047) ≡ record { verdict = Refused refusal.Working; place = 0; met = 0; rows = 0 })
    × (why (over 0 2048) ≡ record { verdict = Refused refusal.Position; place = 0; met = 0; rows = 0 })
    × (why (over 1 2048) ≡ record { verdict = Accepted; place = 0; met = 1; rows = 1 })
    × (table_after (over 1 2047) (old ∷ old ∷ []) ≡ old ∷ old ∷ [])
    × (table_after (over 2 2048) (old ∷ old ∷ []) ≡ old ∷ old ∷ [])
    × (table_after (over 1 2048) (old ∷ old ∷ []) ≡ record { line = 4; number = 0; cause = 5 } ∷ old ∷ [])
unfolding explains small over old
table_left = (refl, refl, refl, refl, refl, refl)

-- a file of 65,536 bytes that has no other fault
long : List ℕ
long = text_of ("ask,0,0\nretain,aa" ∷ replicate 32759 ",a" ++ ("\n" ∷ []))

-- the call of the long file at a position that has no ask line, the slices and the table long enough
over_long : Explanation
over_long = explanation long 0 (replicate 6 (working 16384)) 2048

-- the call at a position that has none, with the last working slice one word short
short_slice : Explanation
short_slice = explanation small 2 (replicate 5 (working 16384) ++ (working 16383 ∷ [])) 2048

-- before 15: 9, and 7 of a working slice; 7 of a table one row short; both counts are 0 and no row is touched
first_refusals :
    (why over_long ≡ record { verdict = Refused refusal.Size; place = 0; met = 0; rows = 0 })
    × (why short_slice ≡ record { verdict = Refused refusal.Working; place = 0; met = 0; rows = 0 })
    × (why (over 1 2047) ≡ record { verdict = Refused refusal.Working; place = 0; met = 0; rows = 0 })
    × (table_after over_long (old ∷ old ∷ []) ≡ old ∷ old ∷ [])
    × (table_after short_slice (old ∷ old ∷ []) ≡ old ∷ old ∷ [])
unfolding explains small over old long over_long short_slice
first_refusals = (refl, refl, refl, refl, refl)
