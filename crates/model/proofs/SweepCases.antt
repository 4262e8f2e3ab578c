-- Document 02, Change 10: files with what the sweep prints of them, shown by computation as F1 to F10 are.
use Prim.Native.Nat.{ℕ}
use mathlib.Core.Path.{◌≡◌, refl}
use mathlib.Core.Bool.{Bool, true}
use mathlib.Core.List.{List, [], ◌∷◌}
use lib.ListN.{replicate}
use Rattle.model.specs.Lists.{concat}
use Rattle.model.specs.Names.{same}
use Rattle.model.specs.Outcome.{working, most_kept, outcome, result_after}
use Rattle.model.specs.Sweep
use Rattle.model.specs.Sweep.{sweep_answer}
use Rattle.model.specs.Text
use Rattle.model.specs.Text.{printed_sweep}
use Rattle.model.specs.declared.Refusal.TheVariants as refusal
use Rattle.model.specs.declared.Swept.{Swept}
use Rattle.model.specs.declared.Verdict.TheVariants.{Accepted, Refused}
use Rattle.model.proofs.Printing.{passes, Small, text_of}

-- whether the definitions print of the sweep of the file what it says, over slices that are long enough
unfoldable sweeps : Small → Bool
unfolding passes text_of Sweep.adds Sweep.with_added Sweep.pass_fact Sweep.begin_pass Sweep.pass Sweep.passes_from Sweep.has_triggers
    Sweep.facts_with_triggers Sweep.sweep_start Sweep.sweep Sweep.passes_of Sweep.passes_told Sweep.swept Sweep.sweep_answer
    Text.pass_line Text.pass_lists Text.printed_sweep
sweeps s =
    let file = text_of s.file in
    let works = replicate 6 (working 16384) in
    same (concat (printed_sweep file (outcome file works most_kept) (sweep_answer file works most_kept).passes)) (text_of s.printed)

-- that they do of each file
abbrev AllSwept : List Small → Type 0
AllSwept [] = Unit {0}
AllSwept (s ∷ more) = (sweeps s ≡ true) × AllSwept more

-- 13-as-the-first-engine to empty-file-is-1
files_1 : List Small
files_1 =
    record {
      name = "13-as-the-first-engine";
      file = "ask,0,0\nask,0,0\nask,0,0\nask,0,0\nask,0,0\nask,0,0\nask,0,0\nask,0,0\nask,0,0\nask,0,0\nask,0,0\n"
          ∷ "ask,0,0\nask,0,0\nask,0,0\nask,0,0\nask,0,0\nask,0,0\n"
          ∷ [];
      printed = "refused,13,17\n" ∷ [];
    }
    ∷ record {
      name = "F10";
      file = "ask,0,4\nfree,p\nfree,q\ncall,f,0\nall,2,1,1,2\nassume,a1,0,3\nfun,f\ndef,g,1\ncall,g\nop,eq,4,1\n"
          ∷ "assume,e1,0,5\nop,and,2,4\nroot,0,r,6\n"
          ∷ [];
      printed = "kept,6,a1\nkept,11,e1\nkept,8,g\nkept,7,f\npass,4,2\n" ∷ [];
    }
    ∷ record {
      name = "a-pass-for-each-ask";
      file = "ask,0,0\nask,1,0\nask,2,0\nfree,n0\nfree,n1\nfree,n2\nfree,n3\nfree,n4\nall,1,1,1,0\nall,2,1,1,1\n"
          ∷ "all,3,1,1,2\nall,4,1,1,3\nassume,c3,0,8\nassume,c2,0,7\nassume,c1,0,6\nassume,c0,0,5\nroot,0,r,0\n"
          ∷ "root,1,r,3\n"
          ∷ [];
      printed = "kept,16,c0\nkept,15,c1\nkept,14,c2\nkept,13,c3\npass,4,5\nkept,13,c3\npass,1,2\npass,0,1\n" ∷ [];
    }
    ∷ record {
      name = "also-of-a-query-twice";
      file = "ask,0,0\nalso,0\nfree,n0\nfree,n1\nfree,n2\nfree,n3\nfree,n4\nall,1,1,1,0\nall,2,1,1,1\nall,3,1,1,2\n"
          ∷ "all,4,1,1,3\nassume,c3,0,8\nassume,c2,0,7\nassume,c1,0,6\nassume,c0,0,5\nroot,0,r,0\n"
          ∷ [];
      printed = "kept,15,c0\nkept,14,c1\nkept,13,c2\nkept,12,c3\npass,4,5\nkept,15,c0\nkept,14,c1\nkept,13,c2\n"
          ∷ "kept,12,c3\npass,4,5\n"
          ∷ [];
    }
    ∷ record {
      name = "also-starts-afresh";
      file = "ask,0,0\nalso,1\nalso,2\nfree,n0\nfree,n1\nfree,n2\nfree,n3\nleaf\nall,4,1,1,2\nassume,c,0,5\n"
          ∷ "all,2,1,1,1\nassume,b,0,6\nall,1,1,1,0\nassume,a,0,7\nroot,0,r,3\nroot,1,r,0\nroot,2,r,1\n"
          ∷ [];
      printed = "pass,0,1\nkept,14,a\nkept,12,b\nkept,10,c\npass,3,4\nkept,14,a\nkept,12,b\nkept,10,c\npass,3,3\n" ∷ [];
    }
    ∷ record {
      name = "ambient-of-a-group-not-admitted-meets-nothing";
      file = "ask2,9,0,2\nfree,p\nfree,Tm_refine_1\ncall,HasType,0,1\nassume,h,0,0,2\nop,eq,0,0\nassume,a,0,1,3\n" ∷ [];
      printed = "pass,0,1\n" ∷ [];
    }
    ∷ record {
      name = "ambients-and-their-roots";
      file = "ask,0,0\nask,0,1\nfree,p\nfree,Tm_refine_1\ncall,HasType,0,1\nassume,h,0,2\nop,eq,0,0\nassume,a,0,3\n"
          ∷ "leaf\nassume,k,0,4\n"
          ∷ [];
      printed = "kept,8,a\nkept,10,k\nkept,6,h\npass,3,2\npass,0,1\n" ∷ [];
    }
    ∷ record {
      name = "chain-backwards-reaches-the-bound";
      file = "ask,0,0\nfree,n0\nfree,n1\nfree,n2\nfree,n3\nfree,n4\nall,1,1,1,0\nall,2,1,1,1\nall,3,1,1,2\n"
          ∷ "all,4,1,1,3\nassume,c3,0,8\nassume,c2,0,7\nassume,c1,0,6\nassume,c0,0,5\nroot,0,r,0\n"
          ∷ [];
      printed = "kept,14,c0\nkept,13,c1\nkept,12,c2\nkept,11,c3\npass,4,5\n" ∷ [];
    }
    ∷ record {
      name = "chain-half-turned";
      file = "ask,0,0\nfree,n0\nfree,n1\nfree,n2\nfree,n3\nfree,n4\nall,1,1,1,0\nall,2,1,1,1\nall,3,1,1,2\n"
          ∷ "all,4,1,1,3\nassume,c2,0,7\nassume,c3,0,8\nassume,c0,0,5\nassume,c1,0,6\nroot,0,r,0\n"
          ∷ [];
      printed = "kept,13,c0\nkept,14,c1\nkept,11,c2\nkept,12,c3\npass,4,3\n" ∷ [];
    }
    ∷ record {
      name = "chain-in-line-order-takes-two";
      file = "ask,0,0\nfree,n0\nfree,n1\nfree,n2\nfree,n3\nfree,n4\nall,1,1,1,0\nall,2,1,1,1\nall,3,1,1,2\n"
          ∷ "all,4,1,1,3\nassume,c0,0,5\nassume,c1,0,6\nassume,c2,0,7\nassume,c3,0,8\nroot,0,r,0\n"
          ∷ [];
      printed = "kept,11,c0\nkept,12,c1\nkept,13,c2\nkept,14,c3\npass,4,2\n" ∷ [];
    }
    ∷ record {
      name = "definitions-and-declarations-of-options-12";
      file = "ask,0,12\nask,0,4\nask,0,0\nfree,p\nfree,h\nfree,k\ndef,g,1\ndef,h,2\nfun,k\nfun,p\nfree,g\nop,eq,0,3\n"
          ∷ "assume,a,0,4\nroot,0,r,0\n"
          ∷ [];
      printed = "kept,13,a\nkept,7,g\nkept,8,h\nkept,10,p\nkept,9,k\npass,5,2\nkept,13,a\nkept,7,g\nkept,10,p\npass,3,2\n"
          ∷ "kept,13,a\npass,1,2\n"
          ∷ [];
    }
    ∷ record {
      name = "empty-disjunct-fires-in-the-second-pass";
      file = "ask,0,0\nfree,p\nfree,q\nleaf\nall,2,2,0,1,1\nassume,a,0,3\nall,1,1,1,0\nassume,b,0,4\nroot,0,r,0\n" ∷ [];
      printed = "kept,6,a\nkept,8,b\npass,2,3\n" ∷ [];
    }
    ∷ record {
      name = "empty-disjunct-fires-once-another-name-is-met";
      file = "ask,0,0\nask,1,0\nfree,p\nfree,q\nfree,s\nleaf\nall,3,2,0,2,0,1\nassume,a,0,4\nroot,0,r,0\nroot,1,r,2\n" ∷ [];
      printed = "kept,8,a\npass,1,2\npass,0,1\n" ∷ [];
    }
    ∷ record {
      name = "empty-file-is-1";
      file = [];
      printed = "refused,1,1\n" ∷ [];
    }
    ∷ []

files_1_swept : AllSwept files_1
unfolding sweeps files_1
files_1_swept = (refl, (refl, (refl, (refl, (refl, (refl, (refl, (refl, (refl, (refl, (refl, (refl, (refl, (refl, tt))))))))))))))

-- fact-that-never-fires to pretyping-fact-is-not-added
files_2 : List Small
files_2 =
    record {
      name = "fact-that-never-fires";
      file = "ask,0,0\nfree,p\nfree,q\nop,eq,0,0\nassume,a,0,2\nop,eq,1,1\nassume,b,0,3\nroot,0,r,0\n" ∷ [];
      printed = "kept,5,a\npass,1,2\n" ∷ [];
    }
    ∷ record {
      name = "fact-waits-for-two";
      file = "ask,0,0\nfree,p\nfree,q\nfree,s\nall,2,1,2,0,1\nassume,a,0,3\nall,1,1,1,0\nassume,b,0,4\nroot,0,r,0\n" ∷ [];
      printed = "kept,6,a\nkept,8,b\npass,2,3\n" ∷ [];
    }
    ∷ record {
      name = "group-not-admitted-is-not-added";
      file = "ask2,0,0,1\nask2,0,0,2\nfree,p\nop,eq,0,0\nassume,a,0,1,1\nroot,0,r,0\n" ∷ [];
      printed = "pass,0,1\nkept,5,a\npass,1,2\n" ∷ [];
    }
    ∷ record {
      name = "hidden-name-is-not-met";
      file = "ask,0,0\nhide,q\nfree,p\nfree,q\nop,and,0,1\nall,2,1,1,0\nassume,a,0,3\nall,0,1,1,1\nassume,b,0,4\n"
          ∷ "op,eq,0,0\nassume,c,0,5\nroot,0,r,2\n"
          ∷ [];
      printed = "kept,7,a\nkept,11,c\npass,2,2\n" ∷ [];
    }
    ∷ record {
      name = "hidden-starting-macro-opens-nothing";
      file = "ask,0,0\nhide,is-BoxInt\nfree,is-BoxInt\nfree,BoxInt\nop,eq,1,1\nassume,a,0,2\nroot,0,r,0\n" ∷ [];
      printed = "pass,0,1\n" ∷ [];
    }
    ∷ record {
      name = "macro-of-an-added-fact-is-open-at-once";
      file = "ask,0,0\nfree,p\nfree,g\nfree,k\ndef,g,2\nall,1,1,1,0\nassume,a,0,3\nall,0,1,1,2\nassume,b,0,4\n"
          ∷ "root,0,r,0\n"
          ∷ [];
      printed = "kept,7,a\nkept,9,b\npass,2,2\n" ∷ [];
    }
    ∷ record {
      name = "macros-open-one-level";
      file = "ask,0,0\nfree,g\nfree,h\nfree,k\ndef,g,1\ndef,h,2\nop,eq,2,2\nassume,a,0,3\nroot,0,r,0\n" ∷ [];
      printed = "pass,0,1\n" ∷ [];
    }
    ∷ record {
      name = "no-facts";
      file = "ask,0,0\nfree,p\nroot,0,r,0\n" ∷ [];
      printed = "pass,0,1\n" ∷ [];
    }
    ∷ record {
      name = "no-record-at-all";
      file = "ask,7,15\n" ∷ [];
      printed = "pass,0,1\n" ∷ [];
    }
    ∷ record {
      name = "nothing-fires";
      file = "ask,0,0\nfree,n0\nfree,n1\nfree,n2\nfree,n3\nfree,n4\nall,1,1,1,0\nall,2,1,1,1\nall,3,1,1,2\n"
          ∷ "all,4,1,1,3\nassume,c0,0,5\nassume,c1,0,6\nassume,c2,0,7\nassume,c3,0,8\n"
          ∷ [];
      printed = "pass,0,1\n" ∷ [];
    }
    ∷ record {
      name = "one-fact-fires-in-the-first-pass";
      file = "ask,0,0\nfree,p\nop,eq,0,0\nassume,a,0,1\nroot,0,r,0\n" ∷ [];
      printed = "kept,4,a\npass,1,2\n" ∷ [];
    }
    ∷ record {
      name = "only-empty-disjunct-never-fires";
      file = "ask,0,0\nfree,p\nall,0,1,0\nassume,a,0,1\nroot,0,r,0\n" ∷ [];
      printed = "pass,0,1\n" ∷ [];
    }
    ∷ record {
      name = "pretyping-fact-is-added-with-option-2";
      file = "ask,0,2\nask,0,0\nfree,p\nfree,q\nleaf\nall,2,1,1,1\nassume,b,0,3\nall,1,1,1,0\nassume,a,1,4\n"
          ∷ "root,0,r,0\n"
          ∷ [];
      printed = "kept,9,a\nkept,7,b\npass,2,3\npass,0,1\n" ∷ [];
    }
    ∷ record {
      name = "pretyping-fact-is-not-added";
      file = "ask,0,0\nfree,p\nfree,q\nall,1,1,1,0\nassume,a,1,2\nleaf\nall,3,1,1,1\nassume,b,0,4\nroot,0,r,0\n" ∷ [];
      printed = "pass,0,1\n" ∷ [];
    }
    ∷ []

files_2_swept : AllSwept files_2
unfolding sweeps files_2
files_2_swept = (refl, (refl, (refl, (refl, (refl, (refl, (refl, (refl, (refl, (refl, (refl, (refl, (refl, (refl, tt))))))))))))))

-- refusals-are-the-first-engines to worst-order-with-facts-without-triggers
files_3 : List Small
files_3 =
    record {
      name = "refusals-are-the-first-engines";
      file = "ask,0,0\nfree,p\nfun,p\nfun,p\n" ∷ [];
      printed = "refused,5,4\n" ∷ [];
    }
    ∷ record {
      name = "roots-of-other-queries-meet-nothing";
      file = "ask,1,0\nfree,p\nop,eq,0,0\nassume,a,0,1\nroot,0,r,0\n" ∷ [];
      printed = "pass,0,1\n" ∷ [];
    }
    ∷ record {
      name = "starting-macro-opens";
      file = "ask,0,0\nask,1,0\nfree,is-BoxBool\nfree,BoxBool\nop,eq,1,1\nassume,a,0,2\nroot,0,r,0\n" ∷ [];
      printed = "kept,6,a\npass,1,2\npass,0,1\n" ∷ [];
    }
    ∷ record {
      name = "three-passes-on-one-position-and-one-on-another";
      file = "ask,1,0\nask,0,0\nfree,p\nfree,q\nleaf\nall,2,1,1,1\nassume,b,0,3\nall,1,1,1,0\nassume,a,0,4\n"
          ∷ "assume,k,0,2\nroot,0,r,0\n"
          ∷ [];
      printed = "kept,10,k\npass,1,1\nkept,9,a\nkept,7,b\nkept,10,k\npass,3,3\n" ∷ [];
    }
    ∷ record {
      name = "trimmed-token-of-a-fact-not-admitted";
      file = "ask2,0,0,1\nask2,0,0,3\nfree,__uu__PartialApp\nfree,f@tok\ncall,ApplyTT,0,1\ncall,Valid,2\n"
          ∷ "assume,t,0,1,3\nfree,f\nfree,p\nall,5,1,1,4\nassume,a,0,0,6\nroot,0,r,4\n"
          ∷ [];
      printed = "kept,11,a\npass,1,2\nkept,11,a\nkept,7,t\npass,2,2\n" ∷ [];
    }
    ∷ record {
      name = "two-chains-against-each-other";
      file = "ask,0,0\nfree,n0\nfree,n1\nfree,n2\nfree,n3\nfree,n4\nleaf\nall,2,1,1,1\nall,5,1,1,2\nall,4,1,1,3\n"
          ∷ "all,5,1,1,4\nassume,b,0,6\nassume,z,0,9\nassume,a2,0,7\nassume,y,0,8\nall,1,1,1,0\nassume,a,0,10\n"
          ∷ "all,3,1,1,0\nassume,x,0,11\nroot,0,r,0\n"
          ∷ [];
      printed = "kept,17,a\nkept,14,a2\nkept,12,b\nkept,19,x\nkept,15,y\nkept,13,z\npass,6,4\n" ∷ [];
    }
    ∷ record {
      name = "two-disjuncts-the-second-met-first";
      file = "ask,0,0\nfree,n0\nfree,n1\nfree,n2\nfree,n3\nleaf\nall,4,2,2,0,1,1,2\nassume,a,0,5\nall,2,1,1,0\n"
          ∷ "assume,b,0,6\nroot,0,r,0\n"
          ∷ [];
      printed = "kept,8,a\nkept,10,b\npass,2,3\n" ∷ [];
    }
    ∷ record {
      name = "worst-order-below-the-bound-by-a-pretyping-fact";
      file = "ask,0,0\nfree,n0\nfree,n1\nfree,n2\nfree,n3\nall,2,1,1,1\nassume,b,0,4\nall,3,1,1,0\nassume,x,1,5\n"
          ∷ "all,1,1,1,0\nassume,a,0,6\nroot,0,r,0\n"
          ∷ [];
      printed = "kept,11,a\nkept,7,b\npass,2,3\n" ∷ [];
    }
    ∷ record {
      name = "worst-order-by-macros";
      file = "ask,0,0\nfree,n0\nfree,n1\nfree,n2\nfree,n3\nfree,m1\nfree,m2\ndef,m1,1\ndef,m2,2\nleaf\nall,6,1,1,2\n"
          ∷ "assume,c,0,7\nall,5,1,1,1\nassume,b,0,8\nall,4,1,1,0\nassume,a,0,9\nroot,0,r,0\n"
          ∷ [];
      printed = "kept,16,a\nkept,14,b\nkept,12,c\npass,3,4\n" ∷ [];
    }
    ∷ record {
      name = "worst-order-by-starting-macros";
      file = "ask,0,0\nfree,is-BoxInt\nfree,BoxInt\nfree,is-BoxReal\nfree,BoxReal\nleaf\nall,4,1,1,3\nassume,b,0,5\n"
          ∷ "all,2,1,1,1\nassume,a,0,6\nroot,0,r,0\n"
          ∷ [];
      printed = "kept,10,a\nkept,8,b\npass,2,3\n" ∷ [];
    }
    ∷ record {
      name = "worst-order-by-trimmed-tokens";
      file = "ask,0,0\nfree,__uu__PartialApp\nfree,f@tok\ncall,ApplyTT,0,1\ncall,Valid,2\nassume,c,0,3\nfree,p\n"
          ∷ "free,f\nall,5,1,1,4\nassume,b,0,6\nroot,0,r,4\n"
          ∷ [];
      printed = "kept,10,b\nkept,6,c\npass,2,3\n" ∷ [];
    }
    ∷ record {
      name = "worst-order-by-two-names-each";
      file = "ask,0,0\nfree,n0\nfree,n1\nfree,n2\nfree,n3\nleaf\nall,4,1,2,2,0\nassume,c,0,5\nall,2,1,2,0,1\n"
          ∷ "assume,b,0,6\nall,1,1,1,0\nassume,a,0,7\nroot,0,r,0\n"
          ∷ [];
      printed = "kept,12,a\nkept,10,b\nkept,8,c\npass,3,4\n" ∷ [];
    }
    ∷ record {
      name = "worst-order-with-facts-without-triggers";
      file = "ask,0,1\nfree,n0\nfree,n1\nfree,n2\nfree,n3\nleaf\nassume,h,0,4\nall,2,1,1,1\nassume,b,0,5\nop,true\n"
          ∷ "assume,d,0,6\nall,1,1,1,0\nassume,a,0,7\nassume,k,0,4\nroot,0,r,0\n"
          ∷ [];
      printed = "kept,13,a\nkept,9,b\npass,2,3\n" ∷ [];
    }
    ∷ []

files_3_swept : AllSwept files_3
unfolding sweeps files_3
files_3_swept = (refl, (refl, (refl, (refl, (refl, (refl, (refl, (refl, (refl, (refl, (refl, (refl, (refl, tt)))))))))))))

-- a file with a list of one line for its first ask and none for its second
two_asks : List ℕ
two_asks = text_of ("ask,0,0\nask,1,0\nfree,p\nop,eq,0,0\nassume,a,0,1\nroot,0,r,0\n" ∷ [])

-- the answer over a result slice of so many words, the working slices long enough
over : ℕ → Swept
over room = sweep_answer two_asks (replicate 6 (working 16384)) room

-- counts and passes past the last position are 0, and all of them in a refused answer
answers :
    (over 1 ≡ record { verdict = Accepted; place = 0; kept = 1 ∷ replicate 15 0; passes = 2 ∷ 1 ∷ replicate 14 0 })
    × (over 0 ≡ record { verdict = Refused refusal.Room; place = 1; kept = replicate 16 0; passes = replicate 16 0 })
unfolding sweeps two_asks over
answers = (refl, refl)

-- a file with a list of one line after one pass, and one of three lines after three
two_lists : List ℕ
two_lists =
    text_of
    ("ask,1,0\nask,0,0\nfree,p\nfree,q\nleaf\nall,2,1,1,1\nassume,b,0,3\nall,1,1,1,0\nassume,a,0,4\n"
    ∷ "assume,k,0,2\nroot,0,r,0\n"
    ∷ [])

-- its answer over a result slice of so many words, the working slices long enough
both : ℕ → Swept
both room = sweep_answer two_lists (replicate 6 (working 16384)) room

-- the result slice at exit
after : ℕ → List ℕ → List ℕ
after room out = result_after (outcome two_lists (replicate 6 (working 16384)) room) out

-- a slice one word short for both lists is 8 with the words needed, every count 0, and is as it was; one just long enough has both
rooms :
    (both 3 ≡ record { verdict = Refused refusal.Room; place = 4; kept = replicate 16 0; passes = replicate 16 0 })
    × (both 4 ≡ record { verdict = Accepted; place = 0; kept = 1 ∷ 3 ∷ replicate 14 0; passes = 1 ∷ 3 ∷ replicate 14 0 })
    × (after 3 (5 ∷ 6 ∷ 5 ∷ []) ≡ 5 ∷ 6 ∷ 5 ∷ [])
    × (after 4 (5 ∷ 6 ∷ 5 ∷ 6 ∷ []) ≡ 10 ∷ 9 ∷ 7 ∷ 10 ∷ [])
    × (after 5 (5 ∷ 6 ∷ 5 ∷ 6 ∷ 5 ∷ []) ≡ 10 ∷ 9 ∷ 7 ∷ 10 ∷ 5 ∷ [])
unfolding sweeps two_lists both after
rooms = (refl, refl, refl, refl, refl)
