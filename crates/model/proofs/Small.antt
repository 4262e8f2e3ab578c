-- The small files of compare/cases with their summaries and answers, shown by computation as F1 to F10 are.
-- Written by `tables` of compare/: compare/README.md says how.
use mathlib.Core.Path.{refl}
use mathlib.Core.List.{List, [], ◌∷◌}
use Rattle.model.proofs.Printing.{Small, prints, AllPrint}

-- 16-asks-pass to 17th-also-after-ask2-is-13
files_1 : List Small
files_1 =
    record {
      name = "16-asks-pass";
      file = "ask,0,0\nask,0,0\nask,0,0\nask,0,0\nask,0,0\nask,0,0\nask,0,0\nask,0,0\nask,0,0\nask,0,0\nask,0,0\n"
          ∷ "ask,0,0\nask,0,0\nask,0,0\nask,0,0\nask,1,0\nfree,p\nfree,q\nop,eq,0,0\nassume,a,0,2\nop,eq,1,1\n"
          ∷ "assume,b,0,3\nroot,0,r,0\nroot,1,r,1\n"
          ∷ [];
      printed = "fact,20,triggers,{p},{p} free={p}\nfact,22,triggers,{q},{q} free={q}\nkept,20,a\nsum,1,2,2\nkept,20,a\n"
          ∷ "sum,1,2,2\nkept,20,a\nsum,1,2,2\nkept,20,a\nsum,1,2,2\nkept,20,a\nsum,1,2,2\nkept,20,a\nsum,1,2,2\n"
          ∷ "kept,20,a\nsum,1,2,2\nkept,20,a\nsum,1,2,2\nkept,20,a\nsum,1,2,2\nkept,20,a\nsum,1,2,2\nkept,20,a\n"
          ∷ "sum,1,2,2\nkept,20,a\nsum,1,2,2\nkept,20,a\nsum,1,2,2\nkept,20,a\nsum,1,2,2\nkept,20,a\nsum,1,2,2\n"
          ∷ "kept,22,b\nsum,1,2,2\n"
          ∷ [];
    }
    ∷ record {
      name = "16-lines-of-a-chain-pass";
      file = "ask,1,0\nalso,0\nalso,0\nalso,0\nalso,0\nalso,0\nalso,0\nalso,0\nalso,0\nalso,0\nalso,0\nalso,0\n"
          ∷ "also,0\nalso,0\nalso,0\nalso,0\nfree,p\nfree,q\nop,eq,0,0\nassume,a,0,2\nop,eq,1,1\nassume,b,0,3\n"
          ∷ "root,0,r,0\nroot,1,r,1\n"
          ∷ [];
      printed = "fact,20,triggers,{p},{p} free={p}\nfact,22,triggers,{q},{q} free={q}\nkept,22,b\nsum,1,2,2\nkept,20,a\n"
          ∷ "kept,22,b\nsum,2,2,2\nkept,20,a\nkept,22,b\nsum,2,0,1\nkept,20,a\nkept,22,b\nsum,2,0,1\nkept,20,a\n"
          ∷ "kept,22,b\nsum,2,0,1\nkept,20,a\nkept,22,b\nsum,2,0,1\nkept,20,a\nkept,22,b\nsum,2,0,1\nkept,20,a\n"
          ∷ "kept,22,b\nsum,2,0,1\nkept,20,a\nkept,22,b\nsum,2,0,1\nkept,20,a\nkept,22,b\nsum,2,0,1\nkept,20,a\n"
          ∷ "kept,22,b\nsum,2,0,1\nkept,20,a\nkept,22,b\nsum,2,0,1\nkept,20,a\nkept,22,b\nsum,2,0,1\nkept,20,a\n"
          ∷ "kept,22,b\nsum,2,0,1\nkept,20,a\nkept,22,b\nsum,2,0,1\nkept,20,a\nkept,22,b\nsum,2,0,1\n"
          ∷ [];
    }
    ∷ record {
      name = "16-lines-with-two-chains-pass";
      file = "ask,1,0\nalso,0\nalso,0\nalso,0\nalso,0\nalso,0\nalso,0\nalso,0\nalso,0\nalso,0\nalso,0\nalso,0\n"
          ∷ "also,0\nalso,0\nalso,0\nask,1,0\nfree,p\nfree,q\nop,eq,0,0\nassume,a,0,2\nop,eq,1,1\nassume,b,0,3\n"
          ∷ "root,0,r,0\nroot,1,r,1\n"
          ∷ [];
      printed = "fact,20,triggers,{p},{p} free={p}\nfact,22,triggers,{q},{q} free={q}\nkept,22,b\nsum,1,2,2\nkept,20,a\n"
          ∷ "kept,22,b\nsum,2,2,2\nkept,20,a\nkept,22,b\nsum,2,0,1\nkept,20,a\nkept,22,b\nsum,2,0,1\nkept,20,a\n"
          ∷ "kept,22,b\nsum,2,0,1\nkept,20,a\nkept,22,b\nsum,2,0,1\nkept,20,a\nkept,22,b\nsum,2,0,1\nkept,20,a\n"
          ∷ "kept,22,b\nsum,2,0,1\nkept,20,a\nkept,22,b\nsum,2,0,1\nkept,20,a\nkept,22,b\nsum,2,0,1\nkept,20,a\n"
          ∷ "kept,22,b\nsum,2,0,1\nkept,20,a\nkept,22,b\nsum,2,0,1\nkept,20,a\nkept,22,b\nsum,2,0,1\nkept,20,a\n"
          ∷ "kept,22,b\nsum,2,0,1\nkept,20,a\nkept,22,b\nsum,2,0,1\nkept,22,b\nsum,1,2,2\n"
          ∷ [];
    }
    ∷ record {
      name = "17-ask2-are-13";
      file = "ask2,0,0,1\nask2,0,0,1\nask2,0,0,1\nask2,0,0,1\nask2,0,0,1\nask2,0,0,1\nask2,0,0,1\nask2,0,0,1\n"
          ∷ "ask2,0,0,1\nask2,0,0,1\nask2,0,0,1\nask2,0,0,1\nask2,0,0,1\nask2,0,0,1\nask2,0,0,1\nask2,0,0,1\n"
          ∷ "ask2,0,0,1\n"
          ∷ [];
      printed = "refused,13,17\n" ∷ [];
    }
    ∷ record {
      name = "17-asks-are-13";
      file = "ask,0,0\nask,0,0\nask,0,0\nask,0,0\nask,0,0\nask,0,0\nask,0,0\nask,0,0\nask,0,0\nask,0,0\nask,0,0\n"
          ∷ "ask,0,0\nask,0,0\nask,0,0\nask,0,0\nask,0,0\nask,0,0\nfree,p\nfree,q\nop,eq,0,0\nassume,a,0,2\n"
          ∷ "op,eq,1,1\nassume,b,0,3\nroot,0,r,0\nroot,1,r,1\n"
          ∷ [];
      printed = "refused,13,17\n" ∷ [];
    }
    ∷ record {
      name = "17th-after-hide-is-1";
      file = "ask,0,0\nask,0,0\nask,0,0\nask,0,0\nask,0,0\nask,0,0\nask,0,0\nask,0,0\nask,0,0\nask,0,0\nask,0,0\n"
          ∷ "ask,0,0\nask,0,0\nask,0,0\nask,0,0\nask,0,0\nhide,p\nask,0,0\n"
          ∷ [];
      printed = "refused,1,18\n" ∷ [];
    }
    ∷ record {
      name = "17th-also-after-16-asks-is-13";
      file = "ask,0,0\nask,0,0\nask,0,0\nask,0,0\nask,0,0\nask,0,0\nask,0,0\nask,0,0\nask,0,0\nask,0,0\nask,0,0\n"
          ∷ "ask,0,0\nask,0,0\nask,0,0\nask,0,0\nask,0,0\nalso,0\n"
          ∷ [];
      printed = "refused,13,17\n" ∷ [];
    }
    ∷ record {
      name = "17th-also-after-ask2-is-13";
      file = "ask2,0,0,1\nalso,0\nalso,0\nalso,0\nalso,0\nalso,0\nalso,0\nalso,0\nalso,0\nalso,0\nalso,0\nalso,0\n"
          ∷ "also,0\nalso,0\nalso,0\nalso,0\nalso,0\n"
          ∷ [];
      printed = "refused,13,17\n" ∷ [];
    }
    ∷ []

-- a wrong one is named in the error
pass_1 : AllPrint files_1
unfolding prints files_1
pass_1 = (refl, (refl, (refl, (refl, (refl, (refl, (refl, (refl, tt))))))))

-- 17th-also-after-hide-is-1 to 17th-is-13-before-its-fields
files_2 : List Small
files_2 =
    record {
      name = "17th-also-after-hide-is-1";
      file = "ask,0,0\nalso,0\nalso,0\nalso,0\nalso,0\nalso,0\nalso,0\nalso,0\nalso,0\nalso,0\nalso,0\nalso,0\n"
          ∷ "also,0\nalso,0\nalso,0\nalso,0\nhide,p\nalso,0\n"
          ∷ [];
      printed = "refused,1,18\n" ∷ [];
    }
    ∷ record {
      name = "17th-also-is-13";
      file = "ask,0,0\nalso,0\nalso,0\nalso,0\nalso,0\nalso,0\nalso,0\nalso,0\nalso,0\nalso,0\nalso,0\nalso,0\n"
          ∷ "also,0\nalso,0\nalso,0\nalso,0\nalso,0\n"
          ∷ [];
      printed = "refused,13,17\n" ∷ [];
    }
    ∷ record {
      name = "17th-also-is-13-before-an-empty-q";
      file = "ask,0,0\nalso,0\nalso,0\nalso,0\nalso,0\nalso,0\nalso,0\nalso,0\nalso,0\nalso,0\nalso,0\nalso,0\n"
          ∷ "also,0\nalso,0\nalso,0\nalso,0\nalso,\n"
          ∷ [];
      printed = "refused,13,17\n" ∷ [];
    }
    ∷ record {
      name = "17th-also-is-13-before-its-fields";
      file = "ask,0,0\nalso,0\nalso,0\nalso,0\nalso,0\nalso,0\nalso,0\nalso,0\nalso,0\nalso,0\nalso,0\nalso,0\n"
          ∷ "also,0\nalso,0\nalso,0\nalso,0\nalso,x,y\n"
          ∷ [];
      printed = "refused,13,17\n" ∷ [];
    }
    ∷ record {
      name = "17th-also-without-0A-is-1";
      file = "ask,0,0\nalso,0\nalso,0\nalso,0\nalso,0\nalso,0\nalso,0\nalso,0\nalso,0\nalso,0\nalso,0\nalso,0\n"
          ∷ "also,0\nalso,0\nalso,0\nalso,0\nalso,0"
          ∷ [];
      printed = "refused,1,17\n" ∷ [];
    }
    ∷ record {
      name = "17th-ask-after-a-chain-is-13";
      file = "ask,0,0\nalso,0\nalso,0\nalso,0\nalso,0\nalso,0\nalso,0\nalso,0\nalso,0\nalso,0\nalso,0\nalso,0\n"
          ∷ "also,0\nalso,0\nalso,0\nalso,0\nask,0,0\n"
          ∷ [];
      printed = "refused,13,17\n" ∷ [];
    }
    ∷ record {
      name = "17th-ask-after-a-chain-is-13-before-its-fields";
      file = "ask,0,0\nalso,0\nalso,0\nalso,0\nalso,0\nalso,0\nalso,0\nalso,0\nalso,0\nalso,0\nalso,0\nalso,0\n"
          ∷ "also,0\nalso,0\nalso,0\nalso,0\nask\n"
          ∷ [];
      printed = "refused,13,17\n" ∷ [];
    }
    ∷ record {
      name = "17th-ask2-in-the-older-form-is-1";
      file = "ask,0,0\nask,0,0\nask,0,0\nask,0,0\nask,0,0\nask,0,0\nask,0,0\nask,0,0\nask,0,0\nask,0,0\nask,0,0\n"
          ∷ "ask,0,0\nask,0,0\nask,0,0\nask,0,0\nask,0,0\nask2,0,0,1\n"
          ∷ [];
      printed = "refused,1,17\n" ∷ [];
    }
    ∷ record {
      name = "17th-ask2-is-13-before-its-fields";
      file = "ask2,0,0,1\nask2,0,0,1\nask2,0,0,1\nask2,0,0,1\nask2,0,0,1\nask2,0,0,1\nask2,0,0,1\nask2,0,0,1\n"
          ∷ "ask2,0,0,1\nask2,0,0,1\nask2,0,0,1\nask2,0,0,1\nask2,0,0,1\nask2,0,0,1\nask2,0,0,1\nask2,0,0,1\n"
          ∷ "ask2,256,16,65536\n"
          ∷ [];
      printed = "refused,13,17\n" ∷ [];
    }
    ∷ record {
      name = "17th-is-13-before-its-field-count";
      file = "ask,0,0\nask,0,0\nask,0,0\nask,0,0\nask,0,0\nask,0,0\nask,0,0\nask,0,0\nask,0,0\nask,0,0\nask,0,0\n"
          ∷ "ask,0,0\nask,0,0\nask,0,0\nask,0,0\nask,0,0\nask\n"
          ∷ [];
      printed = "refused,13,17\n" ∷ [];
    }
    ∷ record {
      name = "17th-is-13-before-its-fields";
      file = "ask,0,0\nask,0,0\nask,0,0\nask,0,0\nask,0,0\nask,0,0\nask,0,0\nask,0,0\nask,0,0\nask,0,0\nask,0,0\n"
          ∷ "ask,0,0\nask,0,0\nask,0,0\nask,0,0\nask,0,0\nask,x,99\n"
          ∷ [];
      printed = "refused,13,17\n" ∷ [];
    }
    ∷ []

-- a wrong one is named in the error
pass_2 : AllPrint files_2
unfolding prints files_2
pass_2 = (refl, (refl, (refl, (refl, (refl, (refl, (refl, (refl, (refl, (refl, (refl, tt)))))))))))

-- 17th-without-0A-is-1 to also-first-query-without-roots
files_3 : List Small
files_3 =
    record {
      name = "17th-without-0A-is-1";
      file = "ask,0,0\nask,0,0\nask,0,0\nask,0,0\nask,0,0\nask,0,0\nask,0,0\nask,0,0\nask,0,0\nask,0,0\nask,0,0\n"
          ∷ "ask,0,0\nask,0,0\nask,0,0\nask,0,0\nask,0,0\nask,0,0"
          ∷ [];
      printed = "refused,1,17\n" ∷ [];
    }
    ∷ record {
      name = "18-asks-are-13-at-the-17th";
      file = "ask,0,0\nask,0,0\nask,0,0\nask,0,0\nask,0,0\nask,0,0\nask,0,0\nask,0,0\nask,0,0\nask,0,0\nask,0,0\n"
          ∷ "ask,0,0\nask,0,0\nask,0,0\nask,0,0\nask,0,0\nask,0,0\nask,0,0\nfree,p\nfree,q\nop,eq,0,0\nassume,a,0,2\n"
          ∷ "op,eq,1,1\nassume,b,0,3\nroot,0,r,0\nroot,1,r,1\n"
          ∷ [];
      printed = "refused,13,17\n" ∷ [];
    }
    ∷ record {
      name = "added-defs-after-noted-defs-in-byte-order";
      file = "ask,0,12\nfree,B\nfree,a\nfree,Z\nfree,m\nop,other,0,1,2\ndef,n,4\ndef,B,3\ndef,a,3\ndef,Z,3\nfree,n\n"
          ∷ "free,k\nop,other,5,6\ndef,k,3\nroot,0,r,7\n"
          ∷ [];
      printed = "kept,7,n\nkept,14,k\nkept,8,B\nkept,10,Z\nkept,9,a\nsum,5,0,1\n" ∷ [];
    }
    ∷ record {
      name = "added-funs-after-noted-funs-in-byte-order";
      file = "ask,0,12\nfree,ab\nfree,a\nfree,A\nop,other,0,1,2\ndef,g,3\nfun,a\nfun,ab\nfun,A\nfun,zz\nfree,g\n"
          ∷ "free,zz\nop,other,4,5\nroot,0,r,6\n"
          ∷ [];
      printed = "kept,6,g\nkept,10,zz\nkept,9,A\nkept,7,a\nkept,8,ab\nsum,5,0,1\n" ∷ [];
    }
    ∷ record {
      name = "also-after-fun-is-1";
      file = "ask,0,0\nalso,0\nfun,f\nalso,0\n" ∷ [];
      printed = "refused,1,4\n" ∷ [];
    }
    ∷ record {
      name = "also-after-hide-is-1";
      file = "ask,0,0\nhide,q\nalso,1\nfree,p\nfree,q\nop,eq,0,0\nassume,a,0,2\nop,eq,1,1\nassume,b,0,3\nroot,0,r,0\n"
          ∷ "root,1,r,1\n"
          ∷ [];
      printed = "refused,1,3\n" ∷ [];
    }
    ∷ record {
      name = "also-after-term-is-1";
      file = "ask,0,0\nfree,p\nalso,1\n" ∷ [];
      printed = "refused,1,3\n" ∷ [];
    }
    ∷ record {
      name = "also-ambients-stand-in-each-list";
      file = "ask,0,0\nalso,1\nfree,p\nop,other,0\nassume,first,0,1\nassume,second,1,1\nop,eq,0,0\nassume,a,0,2\n"
          ∷ "root,1,r,0\n"
          ∷ [];
      printed = "fact,5,ambient,0 free={p}\nfact,6,ambient,0 free={p}\nfact,8,triggers,{p},{p} free={p}\nkept,6,second\n"
          ∷ "kept,5,first\nsum,2,0,1\nkept,8,a\nkept,6,second\nkept,5,first\nsum,3,2,2\n"
          ∷ [];
    }
    ∷ record {
      name = "also-and-nothing-else";
      file = "ask,0,0\nalso,0\nalso,255\n" ∷ [];
      printed = "sum,0,0,1\nsum,0,0,1\nsum,0,0,1\n" ∷ [];
    }
    ∷ record {
      name = "also-bodies-of-the-chain";
      file = "ask,0,12\nalso,1\nfree,f\nfree,h\ndef,g,0\ndef,k,1\nfun,f\nfun,h\ncall,k\ncall,g\nroot,0,r,2\n"
          ∷ "root,1,r,3\n"
          ∷ [];
      printed = "kept,6,k\nkept,8,h\nsum,2,0,1\nkept,5,g\nkept,6,k\nkept,7,f\nkept,8,h\nsum,4,0,1\n" ∷ [];
    }
    ∷ record {
      name = "also-defs-and-funs-of-all-roots";
      file = "ask,0,4\nalso,1\nalso,0\nfree,p\nfree,q\nfree,s\nroot,1,r,1\ndef,d,0\ncall,d\nroot,0,r,3\nfun,p\nfun,q\n"
          ∷ "op,eq,1,2\nassume,a,0,4\nfun,s\n"
          ∷ [];
      printed = "fact,14,triggers,{q},{s} free={q s}\nkept,8,d\nsum,1,0,1\nkept,14,a\nkept,8,d\nkept,15,s\nkept,12,q\n"
          ∷ "sum,4,2,3\nkept,14,a\nkept,8,d\nkept,15,s\nkept,12,q\nsum,4,0,1\n"
          ∷ [];
    }
    ∷ record {
      name = "also-earlier-line-before-13";
      file = "ask,0,0\nalso,0\nalso,256\nalso,0\nalso,0\nalso,0\nalso,0\nalso,0\nalso,0\nalso,0\nalso,0\nalso,0\n"
          ∷ "also,0\nalso,0\nalso,0\nalso,0\nalso,0\nalso,0\nalso,0\n"
          ∷ [];
      printed = "refused,3,3\n" ∷ [];
    }
    ∷ record {
      name = "also-empty-disjunct-met-in-the-stretch";
      file = "ask,0,0\nalso,1\nfree,p\nfree,q\nall,0,2,0,1,1\nassume,a,0,2\nroot,0,r,0\nroot,1,r,1\n" ∷ [];
      printed = "fact,6,triggers,{},{q} free={p q}\nsum,0,0,1\nkept,6,a\nsum,1,1,2\n" ∷ [];
    }
    ∷ record {
      name = "also-first-query-without-roots";
      file = "ask,9,0\nalso,8\nalso,1\nfree,p\nfree,q\nop,eq,0,0\nassume,a,0,2\nop,eq,1,1\nassume,b,0,3\nroot,0,r,0\n"
          ∷ "root,1,r,1\n"
          ∷ [];
      printed = "fact,7,triggers,{p},{p} free={p}\nfact,9,triggers,{q},{q} free={q}\nsum,0,0,1\nsum,0,0,1\nkept,9,b\n"
          ∷ "sum,1,2,2\n"
          ∷ [];
    }
    ∷ []

-- a wrong one is named in the error
pass_3 : AllPrint files_3
unfolding prints files_3
pass_3 = (refl, (refl, (refl, (refl, (refl, (refl, (refl, (refl, (refl, (refl, (refl, (refl, (refl, (refl, tt))))))))))))))

-- also-has-the-groups-of-its-ask to also-trimmed-token-met-in-the-stretch
files_4 : List Small
files_4 =
    record {
      name = "also-has-the-groups-of-its-ask";
      file = "ask2,0,0,1\nalso,1\nfree,p\nfree,q\nop,eq,0,0\nop,eq,1,1\nassume,a,0,1,2\nassume,b,0,0,3\nroot,0,r,0\n"
          ∷ "root,1,r,1\n"
          ∷ [];
      printed = "fact,7,triggers,{p},{p} free={p}\nfact,8,triggers,{q},{q} free={q}\nsum,0,0,1\nkept,8,b\nsum,1,2,2\n" ∷ [];
    }
    ∷ record {
      name = "also-has-the-groups-of-its-own-chain";
      file = "ask2,9,0,1\nalso,0\nask2,9,0,2\nalso,0\nfree,p\nop,eq,0,0\nassume,a,0,0,1\nassume,b,0,1,1\nroot,0,r,0\n" ∷ [];
      printed = "fact,7,triggers,{p},{p} free={p}\nfact,8,triggers,{p},{p} free={p}\nsum,0,0,1\nkept,7,a\nsum,1,2,2\n"
          ∷ "sum,0,0,1\nkept,8,b\nsum,1,2,2\n"
          ∷ [];
    }
    ∷ record {
      name = "also-has-the-options-of-its-ask";
      file = "ask,0,4\nalso,1\nask,0,3\nalso,1\nfree,p\nfree,q\nop,eq,1,1\nassume,typed,1,2\nop,other,0\n"
          ∷ "assume,loose,0,3\nfun,p\nfun,q\nroot,0,r,0\nroot,1,r,1\n"
          ∷ [];
      printed = "fact,8,triggers,{q},{q} free={q}\nfact,10,ambient,0 free={p}\nkept,10,loose\nkept,11,p\nsum,2,0,1\n"
          ∷ "kept,10,loose\nkept,12,q\nkept,11,p\nsum,3,2,2\nsum,0,0,1\nkept,8,typed\nsum,1,2,2\n"
          ∷ [];
    }
    ∷ record {
      name = "also-hidden-name-is-hidden-in-the-stretch";
      file = "ask,0,4\nalso,1\nhide,q\nfree,p\nfree,q\nop,eq,0,1\nassume,a,0,2\nop,eq,1,1\nassume,b,0,3\nfun,p\n"
          ∷ "fun,q\nroot,0,r,1\nroot,1,r,2\n"
          ∷ [];
      printed = "fact,7,triggers,{p},{} free={p}\nfact,9,triggers,{},{} free={}\nsum,0,0,1\nkept,7,a\nkept,10,p\n"
          ∷ "sum,2,1,2\n"
          ∷ [];
    }
    ∷ record {
      name = "also-in-capitals-is-1";
      file = "ask,0,0\nAlso,0\n" ∷ [];
      printed = "refused,1,2\n" ∷ [];
    }
    ∷ record {
      name = "also-line-1";
      file = "ask,0,0\nalso,1\nfree,p\nfree,q\nop,eq,0,0\nop,eq,1,1\nassume,a,0,2\nassume,b,0,3\nroot,0,r,0\n"
          ∷ "root,1,r,1\n"
          ∷ [];
      printed = "fact,7,triggers,{p},{p} free={p}\nfact,8,triggers,{q},{q} free={q}\nkept,7,a\nsum,1,2,2\nkept,7,a\n"
          ∷ "kept,8,b\nsum,2,2,2\n"
          ∷ [];
    }
    ∷ record {
      name = "also-line-2";
      file = "ask,0,0\nalso,1\nfree,p\nfree,q\nop,eq,0,0\nop,eq,1,1\nroot,1,r,1\nassume,b,0,3\nroot,0,r,0\n"
          ∷ "assume,a,0,2\n"
          ∷ [];
      printed = "fact,8,triggers,{q},{q} free={q}\nfact,10,triggers,{p},{p} free={p}\nkept,10,a\nsum,1,2,2\nkept,10,a\n"
          ∷ "kept,8,b\nsum,2,2,2\n"
          ∷ [];
    }
    ∷ record {
      name = "also-line-follows-bodies";
      file = "ask,0,12\nalso,1\nfree,f\ndef,g,0\nfun,f\nfree,g\nroot,1,r,1\n" ∷ [];
      printed = "sum,0,0,1\nkept,4,g\nkept,5,f\nsum,2,0,1\n" ∷ [];
    }
    ∷ record {
      name = "also-list-is-in-name-order-again";
      file = "ask,1,0\nalso,0\nfree,p\nfree,q\nop,eq,0,0\nassume,a,0,2\nop,eq,1,1\nassume,b,0,3\nroot,0,r,0\n"
          ∷ "root,1,r,1\n"
          ∷ [];
      printed = "fact,6,triggers,{p},{p} free={p}\nfact,8,triggers,{q},{q} free={q}\nkept,8,b\nsum,1,2,2\nkept,6,a\n"
          ∷ "kept,8,b\nsum,2,2,2\n"
          ∷ [];
    }
    ∷ record {
      name = "also-name-by-name";
      file = "ask,0,0\nalso,1\nalso,2\nfree,p\nfree,q\nfree,s\nleaf\nall,3,1,3,0,1,2\nassume,a,0,4\nroot,0,r,0\n"
          ∷ "root,1,r,1\nroot,2,r,2\n"
          ∷ [];
      printed = "fact,9,triggers,{p q s} free={p q s}\nsum,0,1,1\nsum,0,1,1\nkept,9,a\nsum,1,1,2\n" ∷ [];
    }
    ∷ record {
      name = "also-name-met-before-is-opened-in-the-stretch";
      file = "ask,0,0\nalso,1\nfree,g\nfree,h\nfree,k\ndef,g,1\ndef,h,2\nop,eq,2,2\nassume,a,0,3\nroot,0,r,0\n"
          ∷ "root,1,r,1\n"
          ∷ [];
      printed = "fact,9,triggers,{k},{k} free={k}\nsum,0,0,1\nkept,9,a\nsum,1,2,2\n" ∷ [];
    }
    ∷ record {
      name = "also-of-two-chains-apart";
      file = "ask,0,0\nalso,1\nask,1,0\nalso,0\nfree,p\nfree,q\nfree,s\nall,2,1,2,0,1\nassume,a,0,3\nall,0,1,1,2\n"
          ∷ "assume,b,0,4\nroot,0,r,0\nroot,1,r,1\n"
          ∷ [];
      printed = "fact,9,triggers,{p q} free={p q s}\nfact,11,triggers,{s} free={p s}\nsum,0,1,1\nkept,9,a\nkept,11,b\n"
          ∷ "sum,2,2,3\nsum,0,1,1\nkept,9,a\nkept,11,b\nsum,2,2,3\n"
          ∷ [];
    }
    ∷ record {
      name = "also-on-line-1-is-1";
      file = "also,0\nask,0,0\n" ∷ [];
      printed = "refused,1,1\n" ∷ [];
    }
    ∷ record {
      name = "also-pretyping-reached-in-the-stretch";
      file = "ask,0,2\nalso,1\nfree,p\nfree,q\nop,eq,1,1\nassume,a,1,2\nroot,0,r,0\nroot,1,r,1\n" ∷ [];
      printed = "fact,6,triggers,{q},{q} free={q}\nsum,0,0,1\nkept,6,a\nsum,1,2,2\n" ∷ [];
    }
    ∷ record {
      name = "also-q-256-is-3";
      file = "ask,0,0\nalso,256\n" ∷ [];
      printed = "refused,3,2\n" ∷ [];
    }
    ∷ record {
      name = "also-query-comes-back-after-another";
      file = "ask,0,0\nalso,1\nalso,0\nalso,1\nfree,p\nfree,q\nop,eq,0,0\nassume,a,0,2\nop,eq,1,1\nassume,b,0,3\n"
          ∷ "root,0,r,0\nroot,1,r,1\n"
          ∷ [];
      printed = "fact,8,triggers,{p},{p} free={p}\nfact,10,triggers,{q},{q} free={q}\nkept,8,a\nsum,1,2,2\nkept,8,a\n"
          ∷ "kept,10,b\nsum,2,2,2\nkept,8,a\nkept,10,b\nsum,2,0,1\nkept,8,a\nkept,10,b\nsum,2,0,1\n"
          ∷ [];
    }
    ∷ record {
      name = "also-trimmed-token-met-in-the-stretch";
      file = "ask,0,0\nalso,1\nfree,__uu__PartialApp\nfree,f@tok\ncall,ApplyTT,0,1\ncall,Valid,2\nassume,t,0,3\n"
          ∷ "free,f\nop,eq,1,1\nassume,a,0,5\nroot,1,r,4\n"
          ∷ [];
      printed = "fact,7,triggers,{f@tok},{f} free={__uu__PartialApp f@tok}\n"
          ∷ "fact,10,triggers,{f@tok},{f@tok} free={f@tok}\nsum,0,0,1\nkept,10,a\nkept,7,t\nsum,2,4,3\n"
          ∷ [];
    }
    ∷ []

-- a wrong one is named in the error
pass_4 : AllPrint files_4
unfolding prints files_4
pass_4 = (refl, (refl, (refl, (refl, (refl, (refl, (refl, (refl, (refl, (refl, (refl, (refl, (refl, (refl, (refl, (refl, (refl, tt)))))))))))))))))

-- also-twice-same-query to ambient-root-scanned-for-each-ask
files_5 : List Small
files_5 =
    record {
      name = "also-twice-same-query";
      file = "ask,0,0\nalso,1\nalso,1\nfree,p\nfree,q\nop,eq,0,0\nassume,a,0,2\nop,eq,1,1\nassume,b,0,3\nroot,0,r,0\n"
          ∷ "root,1,r,1\n"
          ∷ [];
      printed = "fact,7,triggers,{p},{p} free={p}\nfact,9,triggers,{q},{q} free={q}\nkept,7,a\nsum,1,2,2\nkept,7,a\n"
          ∷ "kept,9,b\nsum,2,2,2\nkept,7,a\nkept,9,b\nsum,2,0,1\n"
          ∷ [];
    }
    ∷ record {
      name = "also-up-a-chain-of-facts";
      file = "ask,2,0\nalso,1\nalso,0\nfree,p\nfree,q\nfree,s\nfree,t\nall,1,1,1,0\nassume,a,0,4\nall,2,1,1,1\n"
          ∷ "assume,b,0,5\nall,3,1,1,2\nassume,c,0,6\nroot,0,r,0\nroot,1,r,1\nroot,2,r,2\n"
          ∷ [];
      printed = "fact,9,triggers,{p} free={p q}\nfact,11,triggers,{q} free={q s}\nfact,13,triggers,{s} free={s t}\n"
          ∷ "kept,13,c\nsum,1,1,2\nkept,11,b\nkept,13,c\nsum,2,1,2\nkept,9,a\nkept,11,b\nkept,13,c\nsum,3,1,2\n"
          ∷ [];
    }
    ∷ record {
      name = "also-visits-sum-to-the-fresh-ones";
      file = "ask,0,0\nalso,1\nask,2,0\nfree,p\nfree,q\nfree,s\nfree,t\nall,2,1,2,0,1\nassume,a,0,4\nall,3,1,1,0\n"
          ∷ "assume,b,0,5\nall,0,1,2,2,3\nassume,c,0,6\nroot,0,r,0\nroot,1,r,1\nroot,2,r,0\nroot,2,r,1\n"
          ∷ [];
      printed = "fact,9,triggers,{p q} free={p q s}\nfact,11,triggers,{p} free={p t}\n"
          ∷ "fact,13,triggers,{s t} free={p s t}\nkept,11,b\nsum,1,3,2\nkept,9,a\nkept,11,b\nkept,13,c\nsum,3,2,3\n"
          ∷ "kept,9,a\nkept,11,b\nkept,13,c\nsum,3,5,3\n"
          ∷ [];
    }
    ∷ record {
      name = "also-with-a-leading-zero-is-3";
      file = "ask,0,0\nalso,00\n" ∷ [];
      printed = "refused,3,2\n" ∷ [];
    }
    ∷ record {
      name = "also-with-an-empty-q-is-3";
      file = "ask,0,0\nalso,\n" ∷ [];
      printed = "refused,3,2\n" ∷ [];
    }
    ∷ record {
      name = "also-with-option-1-no-ambients";
      file = "ask,0,1\nalso,1\nfree,p\nfree,Tm_refine_1\ncall,HasType,0,1\nassume,h,0,2\nop,eq,0,0\nassume,a,0,3\n"
          ∷ "root,1,r,0\n"
          ∷ [];
      printed = "fact,6,ambient,1 free={Tm_refine_1 p}\nfact,8,triggers,{p},{p} free={p}\nsum,0,0,1\nkept,8,a\n"
          ∷ "sum,1,2,2\n"
          ∷ [];
    }
    ∷ record {
      name = "also-with-two-numbers-is-1";
      file = "ask,0,0\nalso,0,0\n" ∷ [];
      printed = "refused,1,2\n" ∷ [];
    }
    ∷ record {
      name = "also-without-0A-is-1";
      file = "ask,0,0\nalso,0" ∷ [];
      printed = "refused,1,2\n" ∷ [];
    }
    ∷ record {
      name = "also-without-q-is-1";
      file = "ask,0,0\nalso\n" ∷ [];
      printed = "refused,1,2\n" ∷ [];
    }
    ∷ record {
      name = "ambient-not-scanned";
      file = "ask,0,0\nfree,p\nassume,amb,0,0\nall,0,1,1,0\nassume,z,0,1\n" ∷ [];
      printed = "fact,3,ambient,0 free={p}\nfact,5,triggers,{p} free={p}\nkept,3,amb\nsum,1,0,1\n" ∷ [];
    }
    ∷ record {
      name = "ambient-of-another-group-is-not-kept";
      file = "ask2,0,0,2\nleaf\nassume,a,0,0,0\n" ∷ [];
      printed = "fact,3,ambient,0 free={}\nsum,0,0,1\n" ∷ [];
    }
    ∷ record {
      name = "ambient-of-another-group-on-an-also-line";
      file = "ask2,0,0,2\nalso,1\nleaf\nassume,a,0,0,0\nassume,b,0,1,0\n" ∷ [];
      printed = "fact,4,ambient,0 free={}\nfact,5,ambient,0 free={}\nkept,5,b\nsum,1,0,1\nkept,5,b\nsum,1,0,1\n" ∷ [];
    }
    ∷ record {
      name = "ambient-root-is-scanned-in-the-ask-stretch";
      file = "ask,0,0\nalso,1\nfree,p\nfree,Tm_refine_1\ncall,HasType,0,1\nassume,h,0,2\nop,eq,0,0\nassume,a,0,3\n"
          ∷ "root,1,r,0\n"
          ∷ [];
      printed = "fact,6,ambient,1 free={Tm_refine_1 p}\nfact,8,triggers,{p},{p} free={p}\nkept,8,a\nkept,6,h\nsum,2,2,2\n"
          ∷ "kept,8,a\nkept,6,h\nsum,2,0,1\n"
          ∷ [];
    }
    ∷ record {
      name = "ambient-root-macro";
      file = "ask,0,0\nfree,x\nfree,Tm_refine_1\ncall,HasType,0,1\nassume,h,0,2\nfree,y\ndef,x,3\nall,3,1,1,3\n"
          ∷ "assume,a,0,4\n"
          ∷ [];
      printed = "fact,5,ambient,1 free={Tm_refine_1 x}\nfact,9,triggers,{y} free={y}\nkept,9,a\nkept,5,h\nsum,2,1,2\n" ∷ [];
    }
    ∷ record {
      name = "ambient-root-of-a-group-not-admitted-is-not-scanned";
      file = "ask2,0,0,1\nfree,p\nfree,Tm_refine_1\ncall,HasType,0,1\nassume,h,0,1,2\nop,eq,0,0\nassume,a,0,0,3\n" ∷ [];
      printed = "fact,5,ambient,1 free={Tm_refine_1 p}\nfact,7,triggers,{p},{p} free={p}\nsum,0,0,1\n" ∷ [];
    }
    ∷ record {
      name = "ambient-root-of-its-own-group-is-scanned";
      file = "ask2,0,0,1\nask2,0,0,2\nfree,p\nfree,Tm_refine_1\ncall,HasType,0,1\nassume,h,0,1,2\nop,eq,0,0\n"
          ∷ "assume,a,0,0,3\nassume,b,0,1,3\n"
          ∷ [];
      printed = "fact,6,ambient,1 free={Tm_refine_1 p}\nfact,8,triggers,{p},{p} free={p}\n"
          ∷ "fact,9,triggers,{p},{p} free={p}\nsum,0,0,1\nkept,9,b\nkept,6,h\nsum,2,2,2\n"
          ∷ [];
    }
    ∷ record {
      name = "ambient-root-pretyping-scanned";
      file = "ask,0,0\nfree,x\ncall,Tm_refine_1,0\ncall,HasType,0,1\nassume,h,1,2\nall,0,1,1,0\nassume,a,0,3\n" ∷ [];
      printed = "fact,5,ambient,1 free={Tm_refine_1 x}\nfact,7,triggers,{x} free={x}\nkept,7,a\nkept,5,h\nsum,2,1,2\n" ∷ [];
    }
    ∷ record {
      name = "ambient-root-scanned";
      file = "ask,0,0\nfree,x\ncall,Tm_refine_1,0\ncall,HasType,0,1\nassume,h,0,2\nall,0,1,1,0\nassume,a,0,3\n" ∷ [];
      printed = "fact,5,ambient,1 free={Tm_refine_1 x}\nfact,7,triggers,{x} free={x}\nkept,7,a\nkept,5,h\nsum,2,1,2\n" ∷ [];
    }
    ∷ record {
      name = "ambient-root-scanned-for-each-ask";
      file = "ask,5,0\nask,6,1\nask,7,0\nfree,p\nfree,Tm_refine_1\ncall,HasType,0,1\nassume,h,0,2\nop,eq,0,0\n"
          ∷ "assume,a,0,3\n"
          ∷ [];
      printed = "fact,7,ambient,1 free={Tm_refine_1 p}\nfact,9,triggers,{p},{p} free={p}\nkept,9,a\nkept,7,h\nsum,2,2,2\n"
          ∷ "sum,0,0,1\nkept,9,a\nkept,7,h\nsum,2,2,2\n"
          ∷ [];
    }
    ∷ []

-- a wrong one is named in the error
pass_5 : AllPrint files_5
unfolding prints files_5
pass_5 = (refl, (refl, (refl, (refl, (refl, (refl, (refl, (refl, (refl, (refl, (refl, (refl, (refl, (refl, (refl, (refl, (refl, (refl, (refl, tt)))))))))))))))))))

-- ambients-admitted-last-filed-first to ask2-in-a-file-of-ask-is-1
files_6 : List Small
files_6 =
    record {
      name = "ambients-admitted-last-filed-first";
      file = "ask2,0,0,5\nfree,p\nlabel,0\nassume,a,0,0,1\nassume,b,0,1,1\nassume,c,0,2,1\n" ∷ [];
      printed = "fact,4,ambient,0 free={p}\nfact,5,ambient,0 free={p}\nfact,6,ambient,0 free={p}\nkept,6,c\nkept,4,a\n"
          ∷ "sum,2,0,1\n"
          ∷ [];
    }
    ∷ record {
      name = "ambients-last-filed-first";
      file = "ask,0,0\nfree,p\nop,other,0\nall,0,1,1,0\nassume,b,0,1\nassume,ab,0,2\nassume,c,1,1\nassume,a,0,2\n"
          ∷ "assume,B,0,2\nassume,a-,0,1\nassume,~,0,2\nassume,a!,0,2\nroot,0,r,0\n"
          ∷ [];
      printed = "fact,5,ambient,0 free={p}\nfact,6,triggers,{p} free={p}\nfact,7,ambient,0 free={p}\n"
          ∷ "fact,8,triggers,{p} free={p}\nfact,9,triggers,{p} free={p}\nfact,10,ambient,0 free={p}\n"
          ∷ "fact,11,triggers,{p} free={p}\nfact,12,triggers,{p} free={p}\nkept,9,B\nkept,8,a\nkept,12,a!\n"
          ∷ "kept,6,ab\nkept,11,~\nkept,10,a-\nkept,7,c\nkept,5,b\nsum,8,5,2\n"
          ∷ [];
    }
    ∷ record {
      name = "ambients-opt1-q1";
      file = "ask,1,1\nfree,p\nfree,Tm_refine_1\ncall,HasType,0,1\nleaf\nassume,m1,1,2\nassume,m2,0,3\nassume,m0,0,2\n"
          ∷ "all,3,1,1,0\nassume,z,0,4\nroot,1,r,0\n"
          ∷ [];
      printed = "fact,6,ambient,1 free={Tm_refine_1 p}\nfact,7,ambient,0 free={}\nfact,8,ambient,1 free={Tm_refine_1 p}\n"
          ∷ "fact,10,triggers,{p} free={p}\nkept,10,z\nsum,1,1,2\n"
          ∷ [];
    }
    ∷ record {
      name = "ambients-trade-places-1";
      file = "ask,0,0\nfree,p\nlabel,0\nassume,m,0,1\nassume,n,0,1\n" ∷ [];
      printed = "fact,4,ambient,0 free={p}\nfact,5,ambient,0 free={p}\nkept,5,n\nkept,4,m\nsum,2,0,1\n" ∷ [];
    }
    ∷ record {
      name = "ambients-trade-places-2";
      file = "ask,0,0\nfree,p\nlabel,0\nassume,n,0,1\nassume,m,0,1\n" ∷ [];
      printed = "fact,4,ambient,0 free={p}\nfact,5,ambient,0 free={p}\nkept,5,m\nkept,4,n\nsum,2,0,1\n" ∷ [];
    }
    ∷ record {
      name = "an-earlier-line-before-the-other-form";
      file = "ask2,0,0,65536\nask,0,0\n" ∷ [];
      printed = "refused,3,1\n" ∷ [];
    }
    ∷ record {
      name = "ask-after-also-and-hide-is-1";
      file = "ask,0,0\nalso,0\nhide,p\nask,0,0\n" ∷ [];
      printed = "refused,1,4\n" ∷ [];
    }
    ∷ record {
      name = "ask-after-also-starts-anew";
      file = "ask,0,0\nalso,1\nask,1,0\nfree,p\nfree,q\nop,eq,0,0\nassume,a,0,2\nop,eq,1,1\nassume,b,0,3\nroot,0,r,0\n"
          ∷ "root,1,r,1\n"
          ∷ [];
      printed = "fact,7,triggers,{p},{p} free={p}\nfact,9,triggers,{q},{q} free={q}\nkept,7,a\nsum,1,2,2\nkept,7,a\n"
          ∷ "kept,9,b\nsum,2,2,2\nkept,9,b\nsum,1,2,2\n"
          ∷ [];
    }
    ∷ record {
      name = "ask-after-ask2-and-also-is-1";
      file = "ask2,0,0,1\nalso,1\nask,0,0\n" ∷ [];
      printed = "refused,1,3\n" ∷ [];
    }
    ∷ record {
      name = "ask-after-hide-is-1";
      file = "ask,0,0\nhide,p\nask,1,0\nfree,p\nfree,q\nop,eq,0,0\nassume,a,0,2\nop,eq,1,1\nassume,b,0,3\nroot,0,r,0\n"
          ∷ "root,1,r,1\n"
          ∷ [];
      printed = "refused,1,3\n" ∷ [];
    }
    ∷ record {
      name = "ask-after-record-is-1";
      file = "ask,0,0\nfun,p\nask,1,0\n" ∷ [];
      printed = "refused,1,3\n" ∷ [];
    }
    ∷ record {
      name = "ask-in-a-file-of-ask2-is-1";
      file = "ask2,0,0,1\nask,0,0\n" ∷ [];
      printed = "refused,1,2\n" ∷ [];
    }
    ∷ record {
      name = "ask-of-the-older-form-is-1-before-its-fields";
      file = "ask2,0,0,1\nask,256,16\n" ∷ [];
      printed = "refused,1,2\n" ∷ [];
    }
    ∷ record {
      name = "ask-with-groups-is-1";
      file = "ask,0,0,1\n" ∷ [];
      printed = "refused,1,1\n" ∷ [];
    }
    ∷ record {
      name = "ask-without-roots";
      file = "ask,7,0\nask,0,0\nfree,p\nfree,q\nop,eq,0,0\nassume,a,0,2\nop,eq,1,1\nassume,b,0,3\nroot,0,r,0\n"
          ∷ "root,1,r,1\n"
          ∷ [];
      printed = "fact,6,triggers,{p},{p} free={p}\nfact,8,triggers,{q},{q} free={q}\nsum,0,0,1\nkept,6,a\nsum,1,2,2\n" ∷ [];
    }
    ∷ record {
      name = "ask2-after-a-term-is-1";
      file = "ask2,0,0,1\nleaf\nask2,0,0,65536\n" ∷ [];
      printed = "refused,1,3\n" ∷ [];
    }
    ∷ record {
      name = "ask2-after-ask-and-also-is-1";
      file = "ask,0,0\nalso,1\nask2,0,0,1\n" ∷ [];
      printed = "refused,1,3\n" ∷ [];
    }
    ∷ record {
      name = "ask2-after-hide-is-1";
      file = "ask2,0,0,1\nhide,p\nask2,0,0,1\n" ∷ [];
      printed = "refused,1,3\n" ∷ [];
    }
    ∷ record {
      name = "ask2-alone";
      file = "ask2,0,0,0\n" ∷ [];
      printed = "sum,0,0,1\n" ∷ [];
    }
    ∷ record {
      name = "ask2-in-a-file-of-ask-is-1";
      file = "ask,0,0\nask2,0,0,1\n" ∷ [];
      printed = "refused,1,2\n" ∷ [];
    }
    ∷ []

-- a wrong one is named in the error
pass_6 : AllPrint files_6
unfolding prints files_6
pass_6 = (refl, (refl, (refl, (refl, (refl, (refl, (refl, (refl, (refl, (refl, (refl, (refl, (refl, (refl, (refl, (refl, (refl, (refl, (refl, (refl, tt))))))))))))))))))))

-- ask2-in-capitals-is-1 to asks-macro-opened-for-each
files_7 : List Small
files_7 =
    record {
      name = "ask2-in-capitals-is-1";
      file = "ASK2,0,0,1\n" ∷ [];
      printed = "refused,1,1\n" ∷ [];
    }
    ∷ record {
      name = "ask2-of-the-newer-form-is-1-before-its-fields";
      file = "ask,0,0\nask2,256,0,65536\n" ∷ [];
      printed = "refused,1,2\n" ∷ [];
    }
    ∷ record {
      name = "ask2-with-five-fields-is-1";
      file = "ask2,0,0,1,1\n" ∷ [];
      printed = "refused,1,1\n" ∷ [];
    }
    ∷ record {
      name = "ask2-without-0A-is-1";
      file = "ask2,0,0,1" ∷ [];
      printed = "refused,1,1\n" ∷ [];
    }
    ∷ record {
      name = "ask2-without-groups-is-1";
      file = "ask2,0,0\n" ∷ [];
      printed = "refused,1,1\n" ∷ [];
    }
    ∷ record {
      name = "ask3-is-1";
      file = "ask3,0,0,1\n" ∷ [];
      printed = "refused,1,1\n" ∷ [];
    }
    ∷ record {
      name = "asks-and-nothing-else";
      file = "ask,0,0\nask,255,15\nask,7,4\n" ∷ [];
      printed = "sum,0,0,1\nsum,0,0,1\nsum,0,0,1\n" ∷ [];
    }
    ∷ record {
      name = "asks-bodies-for-each";
      file = "ask,0,12\nask,0,4\nask,1,12\nask,0,12\nask,1,4\nfree,top\nfree,mid\nfree,low\nfree,p\nop,other,1,3\n"
          ∷ "def,top,4\ndef,mid,2\nfun,p\nfun,low\nall,0,1,1,3\nassume,on_p,0,5\nroot,0,goal,0\nroot,1,goal,3\n"
          ∷ [];
      printed = "fact,16,triggers,{p} free={p top}\nkept,16,on_p\nkept,11,top\nkept,12,mid\nkept,13,p\nkept,14,low\n"
          ∷ "sum,5,1,2\nkept,16,on_p\nkept,11,top\nkept,13,p\nsum,3,1,2\nkept,16,on_p\nkept,11,top\nkept,12,mid\n"
          ∷ "kept,13,p\nkept,14,low\nsum,5,1,2\nkept,16,on_p\nkept,11,top\nkept,12,mid\nkept,13,p\nkept,14,low\n"
          ∷ "sum,5,1,2\nkept,16,on_p\nkept,11,top\nkept,13,p\nsum,3,1,2\n"
          ∷ [];
    }
    ∷ record {
      name = "asks-decls-noted-for-each";
      file = "ask,0,5\nask,1,5\nask,2,5\nask,0,5\nfree,a\nfree,b\nfree,c\nfun,a\nfun,b\nfun,c\nop,other,0,1\n"
          ∷ "root,0,r,3\nop,other,1,2\nroot,1,r,4\nop,other,2,0\nroot,2,r,5\n"
          ∷ [];
      printed = "kept,9,b\nkept,8,a\nsum,2,0,1\nkept,10,c\nkept,9,b\nsum,2,0,1\nkept,10,c\nkept,8,a\nsum,2,0,1\n"
          ∷ "kept,9,b\nkept,8,a\nsum,2,0,1\n"
          ∷ [];
    }
    ∷ record {
      name = "asks-empty-disjunct-met-in-one";
      file = "ask,0,0\nask,1,0\nask,0,0\nfree,p\nfree,q\nall,1,2,0,2,0,1\nassume,a,0,2\nroot,0,goal,0\n" ∷ [];
      printed = "fact,7,triggers,{},{p q} free={p q}\nkept,7,a\nsum,1,2,3\nsum,0,0,1\nkept,7,a\nsum,1,2,3\n" ∷ [];
    }
    ∷ record {
      name = "asks-every-options-number";
      file = "ask,1,0\nask,1,1\nask,1,2\nask,1,3\nask,1,4\nask,1,5\nask,1,6\nask,1,7\nask,1,8\nask,1,9\nask,1,10\n"
          ∷ "ask,1,11\nask,1,12\nask,1,13\nask,1,14\nask,1,15\nfree,p\nfree,q\nfree,r\nall,1,1,1,0\nassume,on_p,0,3\n"
          ∷ "all,2,1,1,1\nassume,typed_on_q,1,4\nop,other,2\nassume,loose,0,5\nfree,Tm_refine_1\ncall,HasType,0,6\n"
          ∷ "assume,refined,0,7\ndef,r,1\nfun,q\nfun,Tm_refine_1\nroot,1,goal,2\n"
          ∷ [];
      printed = "fact,21,triggers,{p} free={p q}\nfact,23,triggers,{q} free={q r}\nfact,25,ambient,0 free={r}\n"
          ∷ "fact,28,ambient,1 free={Tm_refine_1 p}\nkept,21,on_p\nkept,28,refined\nkept,25,loose\nsum,3,2,2\n"
          ∷ "sum,0,1,2\nkept,21,on_p\nkept,23,typed_on_q\nkept,28,refined\nkept,25,loose\nsum,4,2,2\n"
          ∷ "kept,23,typed_on_q\nsum,1,1,2\nkept,21,on_p\nkept,28,refined\nkept,25,loose\nkept,29,r\n"
          ∷ "kept,31,Tm_refine_1\nkept,30,q\nsum,6,2,2\nkept,29,r\nsum,1,1,2\nkept,21,on_p\nkept,23,typed_on_q\n"
          ∷ "kept,28,refined\nkept,25,loose\nkept,29,r\nkept,31,Tm_refine_1\nkept,30,q\nsum,7,2,2\n"
          ∷ "kept,23,typed_on_q\nkept,29,r\nkept,30,q\nsum,3,1,2\nkept,21,on_p\nkept,28,refined\nkept,25,loose\n"
          ∷ "sum,3,2,2\nsum,0,1,2\nkept,21,on_p\nkept,23,typed_on_q\nkept,28,refined\nkept,25,loose\nsum,4,2,2\n"
          ∷ "kept,23,typed_on_q\nsum,1,1,2\nkept,21,on_p\nkept,28,refined\nkept,25,loose\nkept,29,r\n"
          ∷ "kept,31,Tm_refine_1\nkept,30,q\nsum,6,2,2\nkept,29,r\nkept,30,q\nsum,2,1,2\nkept,21,on_p\n"
          ∷ "kept,23,typed_on_q\nkept,28,refined\nkept,25,loose\nkept,29,r\nkept,31,Tm_refine_1\nkept,30,q\n"
          ∷ "sum,7,2,2\nkept,23,typed_on_q\nkept,29,r\nkept,30,q\nsum,3,1,2\n"
          ∷ [];
    }
    ∷ record {
      name = "asks-first-fault-decides";
      file = "ask,0,0\nask,0,0\nask,0,16\nfree,a b\n" ∷ [];
      printed = "refused,3,3\n" ∷ [];
    }
    ∷ record {
      name = "asks-hidden-for-each";
      file = "ask,0,4\nask,1,4\nhide,h\nfree,g\nfree,h\nfree,k\ndef,g,1\nall,2,1,1,1\nassume,on_h,0,3\nall,1,1,1,0\n"
          ∷ "assume,on_g,0,4\nroot,0,goal,0\nroot,1,goal,1\nroot,2,goal,2\n"
          ∷ [];
      printed = "fact,9,triggers,{} free={k}\nfact,11,triggers,{g} free={g}\nkept,11,on_g\nkept,7,g\nsum,2,1,2\n"
          ∷ "sum,0,0,1\n"
          ∷ [];
    }
    ∷ record {
      name = "asks-long-list-then-short";
      file = "ask,0,0\nask,1,0\nask,2,0\nfree,p\nfree,q\nfree,s\nall,1,1,1,0\nassume,p_to_q,0,3\nall,2,1,1,1\n"
          ∷ "assume,q_to_s,0,4\nall,0,1,1,2\nassume,s_to_p,1,5\nroot,0,goal,0\nroot,1,goal,1\nroot,2,goal,2\n"
          ∷ [];
      printed = "fact,8,triggers,{p} free={p q}\nfact,10,triggers,{q} free={q s}\nfact,12,triggers,{s} free={p s}\n"
          ∷ "kept,8,p_to_q\nkept,10,q_to_s\nsum,2,3,4\nkept,10,q_to_s\nsum,1,2,3\nsum,0,1,2\n"
          ∷ [];
    }
    ∷ record {
      name = "asks-macro-opened-for-each";
      file = "ask,0,0\nask,2,0\nask,0,0\nask,1,0\nfree,g\nfree,h\nfree,k\ndef,g,1\nall,2,1,1,1\nassume,on_h,0,3\n"
          ∷ "all,1,1,1,0\nassume,on_g,0,4\nroot,0,goal,0\nroot,1,goal,1\nroot,2,goal,2\n"
          ∷ [];
      printed = "fact,10,triggers,{h} free={h k}\nfact,12,triggers,{g} free={g h}\nkept,12,on_g\nkept,10,on_h\n"
          ∷ "sum,2,2,2\nsum,0,0,1\nkept,12,on_g\nkept,10,on_h\nsum,2,2,2\nkept,10,on_h\nsum,1,1,2\n"
          ∷ [];
    }
    ∷ []

-- a wrong one is named in the error
pass_7 : AllPrint files_7
unfolding prints files_7
pass_7 = (refl, (refl, (refl, (refl, (refl, (refl, (refl, (refl, (refl, (refl, (refl, (refl, (refl, (refl, (refl, tt)))))))))))))))

-- asks-of-a-query-and-of-none to bodies-listed-but-not-met
files_8 : List Small
files_8 =
    record {
      name = "asks-of-a-query-and-of-none";
      file = "ask,9,0\nask,1,0\nask,9,4\nask,9,1\nfree,p\nfree,q\nfree,r\nall,1,1,1,0\nassume,on_p,0,3\nall,2,1,1,1\n"
          ∷ "assume,typed_on_q,1,4\nop,other,2\nassume,loose,0,5\nfree,Tm_refine_1\ncall,HasType,0,6\n"
          ∷ "assume,refined,0,7\ndef,r,1\nfun,q\nfun,Tm_refine_1\nroot,1,goal,2\n"
          ∷ [];
      printed = "fact,9,triggers,{p} free={p q}\nfact,11,triggers,{q} free={q r}\nfact,13,ambient,0 free={r}\n"
          ∷ "fact,16,ambient,1 free={Tm_refine_1 p}\nkept,9,on_p\nkept,16,refined\nkept,13,loose\nsum,3,2,3\n"
          ∷ "kept,9,on_p\nkept,16,refined\nkept,13,loose\nsum,3,2,2\nkept,9,on_p\nkept,16,refined\nkept,13,loose\n"
          ∷ "kept,17,r\nkept,19,Tm_refine_1\nkept,18,q\nsum,6,2,3\nsum,0,0,1\n"
          ∷ [];
    }
    ∷ record {
      name = "asks-one-fact-in-each-list";
      file = "ask,0,0\nask,1,0\nask,2,0\nfree,p\nfree,q\nall,0,2,1,0,1,1\nassume,either,0,2\nroot,0,goal,0\n"
          ∷ "root,1,goal,1\nop,and,0,1\nroot,2,goal,3\n"
          ∷ [];
      printed = "fact,7,triggers,{p},{q} free={p q}\nkept,7,either\nsum,1,2,3\nkept,7,either\nsum,1,2,3\nkept,7,either\n"
          ∷ "sum,1,2,2\n"
          ∷ [];
    }
    ∷ record {
      name = "asks-pretyping-on-then-off";
      file = "ask,2,2\nask,2,0\nask,2,2\nfree,p\nfree,q\nfree,s\nall,1,1,1,0\nassume,p_to_q,0,3\nall,2,1,1,1\n"
          ∷ "assume,q_to_s,0,4\nall,0,1,1,2\nassume,s_to_p,1,5\nroot,0,goal,0\nroot,1,goal,1\nroot,2,goal,2\n"
          ∷ [];
      printed = "fact,8,triggers,{p} free={p q}\nfact,10,triggers,{q} free={q s}\nfact,12,triggers,{s} free={p s}\n"
          ∷ "kept,8,p_to_q\nkept,10,q_to_s\nkept,12,s_to_p\nsum,3,3,4\nsum,0,1,2\nkept,8,p_to_q\nkept,10,q_to_s\n"
          ∷ "kept,12,s_to_p\nsum,3,3,4\n"
          ∷ [];
    }
    ∷ record {
      name = "asks-refused-after-them";
      file = "ask,0,0\nask,1,4\nask,2,8\nleaf\nfree,a b\n" ∷ [];
      printed = "refused,2,5\n" ∷ [];
    }
    ∷ record {
      name = "asks-same-twice-with-declarations";
      file = "ask,1,4\nask,1,4\nfree,top\nfree,mid\nfree,low\nfree,p\nop,other,1,3\ndef,top,4\ndef,mid,2\nfun,p\n"
          ∷ "fun,low\nall,0,1,1,3\nassume,on_p,0,5\nroot,0,goal,0\nroot,1,goal,3\n"
          ∷ [];
      printed = "fact,13,triggers,{p} free={p top}\nkept,13,on_p\nkept,8,top\nkept,10,p\nsum,3,1,2\nkept,13,on_p\n"
          ∷ "kept,8,top\nkept,10,p\nsum,3,1,2\n"
          ∷ [];
    }
    ∷ record {
      name = "asks-short-list-then-long";
      file = "ask,2,0\nask,1,0\nask,0,0\nfree,p\nfree,q\nfree,s\nall,1,1,1,0\nassume,p_to_q,0,3\nall,2,1,1,1\n"
          ∷ "assume,q_to_s,0,4\nall,0,1,1,2\nassume,s_to_p,1,5\nroot,0,goal,0\nroot,1,goal,1\nroot,2,goal,2\n"
          ∷ [];
      printed = "fact,8,triggers,{p} free={p q}\nfact,10,triggers,{q} free={q s}\nfact,12,triggers,{s} free={p s}\n"
          ∷ "sum,0,1,2\nkept,10,q_to_s\nsum,1,2,3\nkept,8,p_to_q\nkept,10,q_to_s\nsum,2,3,4\n"
          ∷ [];
    }
    ∷ record {
      name = "assume-of-five-fields-in-the-older-form-is-1";
      file = "ask,0,0\nfree,p\nop,eq,0,0\nassume,a,0,0,1\n" ∷ [];
      printed = "refused,1,4\n" ∷ [];
    }
    ∷ record {
      name = "assume-of-four-fields-in-the-new-form-is-1";
      file = "ask2,0,0,1\nfree,p\nop,eq,0,0\nassume,a,0,1\n" ∷ [];
      printed = "refused,1,4\n" ∷ [];
    }
    ∷ record {
      name = "bodies-8-alone";
      file = "ask,0,8\nfree,f\ndef,g,0\nfun,f\nfree,g\nroot,0,r,1\n" ∷ [];
      printed = "sum,0,0,1\n" ∷ [];
    }
    ∷ record {
      name = "bodies-circle-of-three";
      file = "ask,0,12\nfree,a\nfree,b\nfree,c\nfree,f\nop,other,1,3\ndef,a,4\ndef,b,2\ndef,c,0\nfun,f\nroot,0,r,1\n" ∷ [];
      printed = "kept,8,b\nkept,7,a\nkept,9,c\nkept,10,f\nsum,4,0,1\n" ∷ [];
    }
    ∷ record {
      name = "bodies-every-part-counts";
      file = "ask,0,12\nfree,f1\ncall,f2\nlabel,1\nsome,2,1,1,0\nfree,f3\nlet,3,4\nleaf\nall,6,2,0,1,5\ncall,f4,7\n"
          ∷ "def,g,8\nfun,f4\nfun,f3\nfun,f2\nfun,f1\nfree,g\nroot,0,r,9\n"
          ∷ [];
      printed = "kept,11,g\nkept,15,f1\nkept,14,f2\nkept,13,f3\nkept,12,f4\nsum,5,0,1\n" ∷ [];
    }
    ∷ record {
      name = "bodies-hidden-definition";
      file = "ask,0,12\nhide,h\nfree,f\nfree,h\ndef,h,0\ndef,g,1\nfun,f\nfree,g\nop,other,1,2\nroot,0,r,3\n" ∷ [];
      printed = "kept,6,g\nsum,1,0,1\n" ∷ [];
    }
    ∷ record {
      name = "bodies-listed-but-not-met";
      file = "ask,0,12\nfree,k\nfree,h\nfree,g\ndef,h,0\ndef,g,1\nall,0,1,1,0\nassume,on_k,0,3\nall,1,1,1,1\n"
          ∷ "assume,on_h,1,4\nfun,k\nroot,0,r,2\n"
          ∷ [];
      printed = "fact,8,triggers,{k} free={k}\nfact,10,triggers,{h} free={h}\nkept,6,g\nkept,5,h\nkept,11,k\nsum,3,1,2\n" ∷ [];
    }
    ∷ []

-- a wrong one is named in the error
pass_8 : AllPrint files_8
unfolding prints files_8
pass_8 = (refl, (refl, (refl, (refl, (refl, (refl, (refl, (refl, (refl, (refl, (refl, (refl, (refl, tt)))))))))))))

-- bodies-noted-stays-in-its-place to contract-14-assumption-waits
files_9 : List Small
files_9 =
    record {
      name = "bodies-noted-stays-in-its-place";
      file = "ask,0,12\nfree,a\nfree,m\nop,other,0,1\ndef,z,2\ndef,y,2\nfun,a\nfun,m\nfree,z\nfree,y\nop,other,3,4,1\n"
          ∷ "root,0,r,5\n"
          ∷ [];
      printed = "kept,5,z\nkept,6,y\nkept,8,m\nkept,7,a\nsum,4,0,1\n" ∷ [];
    }
    ∷ record {
      name = "bodies-of-what-is-not-kept";
      file = "ask,0,12\nfree,f\ndef,g,0\nfun,f\nfree,g\nroot,1,r,1\ndef,h,1\nop,eq,1,1\nassume,unreached,0,2\nfree,p\n"
          ∷ "root,0,r,3\n"
          ∷ [];
      printed = "fact,9,triggers,{g},{g} free={g}\nsum,0,0,1\n" ∷ [];
    }
    ∷ record {
      name = "bodies-options-012";
      file = "ask,0,012\n" ∷ [];
      printed = "refused,3,1\n" ∷ [];
    }
    ∷ record {
      name = "bodies-options-16";
      file = "ask,0,16\nleaf\n" ∷ [];
      printed = "refused,3,1\n" ∷ [];
    }
    ∷ record {
      name = "bodies-order-of-the-list";
      file = "ask,0,12\nfree,p\nfree,v\nfree,u\nop,other,1,2\ndef,t,3\nfree,c\nfree,b\nop,other,4,5\ndef,s,6\nfun,b\n"
          ∷ "fun,c\ndef,u,4\ndef,v,5\nfun,p\nfun,o\nfree,s\nfree,t\nfree,o\nop,other,7,8,0\nall,10,1,1,0\n"
          ∷ "assume,reached,0,11\nop,other,9\nassume,loose,0,12\nroot,0,goal,0\n"
          ∷ [];
      printed = "fact,22,triggers,{p} free={p s t}\nfact,24,ambient,0 free={o}\nkept,22,reached\nkept,24,loose\n"
          ∷ "kept,6,t\nkept,10,s\nkept,13,u\nkept,14,v\nkept,16,o\nkept,15,p\nkept,11,b\nkept,12,c\nsum,10,1,2\n"
          ∷ [];
    }
    ∷ record {
      name = "bodies-to-any-depth";
      file = "ask,0,12\nfree,g\nfree,h\nfree,k\nfree,m\ndef,g,1\ndef,h,2\ndef,k,3\nfun,m\nroot,0,r,0\n" ∷ [];
      printed = "kept,6,g\nkept,7,h\nkept,8,k\nkept,9,m\nsum,4,0,1\n" ∷ [];
    }
    ∷ record {
      name = "contract-01-equation-without-pattern";
      file = "ask,0,1\nfree,p\nfree,q\nop,eq,0,1\nassume,e,0,2\nroot,0,r,0\n" ∷ [];
      printed = "fact,5,triggers,{p},{q} free={p q}\nkept,5,e\nsum,1,2,3\n" ∷ [];
    }
    ∷ record {
      name = "contract-02-no-ambients-root-lost";
      file = "ask,0,1\nfree,x\nfree,Tm_refine_1\ncall,HasType,0,1\nassume,h,0,2\nall,0,1,1,0\nassume,a,0,3\n" ∷ [];
      printed = "fact,5,ambient,1 free={Tm_refine_1 x}\nfact,7,triggers,{x} free={x}\nsum,0,0,1\n" ∷ [];
    }
    ∷ record {
      name = "contract-03-box-int-opens";
      file = "ask,0,0\ncall,is-BoxInt\ncall,BoxInt\nall,0,1,1,1\nassume,a,0,2\nroot,0,r,0\n" ∷ [];
      printed = "fact,5,triggers,{BoxInt} free={BoxInt is-BoxInt}\nkept,5,a\nsum,1,1,2\n" ∷ [];
    }
    ∷ record {
      name = "contract-04-filed-twice";
      file = "ask,0,0\nfree,p\nfree,q\nall,0,2,1,0,2,0,1\nassume,a,0,2\nroot,0,r,0\n" ∷ [];
      printed = "fact,5,triggers,{p},{p q} free={p q}\nkept,5,a\nsum,1,3,3\n" ∷ [];
    }
    ∷ record {
      name = "contract-05-pretyping-ambient";
      file = "ask,0,0\nleaf\nassume,a,1,0\n" ∷ [];
      printed = "fact,3,ambient,0 free={}\nkept,3,a\nsum,1,0,1\n" ∷ [];
    }
    ∷ record {
      name = "contract-06-excluded-group";
      file = "ask,0,0\nleaf\ncall,HasType,0,0\nfree,p\nall,2,1,1,1\nassume,a,0,3\ncall,HasType,2,2\nroot,0,r,4\n" ∷ [];
      printed = "fact,6,triggers,{} free={p}\nsum,0,0,1\n" ∷ [];
    }
    ∷ record {
      name = "contract-07-repeated-name";
      file = "ask,0,0\nleaf\nassume,a,0,0\nfun,a\n" ∷ [];
      printed = "refused,5,4\n" ∷ [];
    }
    ∷ record {
      name = "contract-08-and-without-groups";
      file = "ask,0,0\nfree,p\nop,and,0,0\nassume,a,0,1\nroot,0,r,0\n" ∷ [];
      printed = "fact,4,triggers free={p}\nsum,0,0,1\n" ∷ [];
    }
    ∷ record {
      name = "contract-09-token-excluded";
      file = "ask,0,0\nfree,__uu__PartialApp\nfree,HasType\ncall,ApplyTT,0,1\ncall,Valid,2\nassume,a,0,3\ndef,g,1\n"
          ∷ "call,g,1\nroot,0,r,4\n"
          ∷ [];
      printed = "fact,6,triggers,{HasType} free={__uu__PartialApp}\nsum,0,0,1\n" ∷ [];
    }
    ∷ record {
      name = "contract-10-empty-disjunct-fires";
      file = "ask,0,0\nfree,p\nfree,q\nall,0,2,0,2,0,1\nassume,a,0,2\nroot,0,r,0\n" ∷ [];
      printed = "fact,5,triggers,{},{p q} free={p q}\nkept,5,a\nsum,1,2,3\n" ∷ [];
    }
    ∷ record {
      name = "contract-11-waits-on";
      file = "ask,0,0\nfree,p\nfree,q\nall,0,1,2,0,1\nassume,a,0,2\nroot,0,r,0\n" ∷ [];
      printed = "fact,5,triggers,{p q} free={p q}\nsum,0,1,1\n" ∷ [];
    }
    ∷ record {
      name = "contract-12-fun-excluded";
      file = "ask,0,4\nleaf\nfun,Valid\ncall,Valid,0\nroot,0,r,1\n" ∷ [];
      printed = "sum,0,0,1\n" ∷ [];
    }
    ∷ record {
      name = "contract-13-l-quant-interp-both";
      file = "ask,0,0\nfree,p\nfree,q\nall,1,1,1,0\nop,iff,2,1\nassume,l_quant_interp_1,0,3\nroot,0,r,0\n" ∷ [];
      printed = "fact,6,triggers,{p q} free={p q}\nsum,0,1,1\n" ∷ [];
    }
    ∷ record {
      name = "contract-14-assumption-waits";
      file = "ask,0,0\nfree,p\ncall,Tm_refine_1\ncall,HasType,0,1\nassume,assumption_A,0,2\nroot,0,r,0\n" ∷ [];
      printed = "fact,5,triggers,{Tm_refine_1 p} free={Tm_refine_1 p}\nsum,0,1,1\n" ∷ [];
    }
    ∷ []

-- a wrong one is named in the error
pass_9 : AllPrint files_9
unfolding prints files_9
pass_9 = (refl, (refl, (refl, (refl, (refl, (refl, (refl, (refl, (refl, (refl, (refl, (refl, (refl, (refl, (refl, (refl, (refl, (refl, (refl, (refl, tt))))))))))))))))))))

-- contract-15-squash-with-pattern to contract-33-body-not-followed
files_10 : List Small
files_10 =
    record {
      name = "contract-15-squash-with-pattern";
      file = "ask,0,0\nfree,t\nfree,p\nall,1,1,1,1\ncall,Prims.squash,0,2\ncall,HasType,0,3\nassume,h,0,4\n"
          ∷ "root,0,r,0\n"
          ∷ [];
      printed = "fact,7,triggers,{p} free={Prims.squash p t}\nsum,0,0,1\n" ∷ [];
    }
    ∷ record {
      name = "contract-16-token-without-tok";
      file = "ask,0,0\nfree,__uu__PartialApp\nfree,f\ncall,ApplyTT,0,1\ncall,Valid,2\nassume,a,0,3\ncall,f@tok\n"
          ∷ "call,ApplyTT,0,4\nroot,0,r,5\n"
          ∷ [];
      printed = "fact,6,triggers,{f} free={__uu__PartialApp f}\nsum,0,0,1\n" ∷ [];
    }
    ∷ record {
      name = "contract-17-token-with-argument";
      file = "ask,0,0\nfree,__uu__PartialApp\nleaf\ncall,f,1\ncall,ApplyTT,0,2\ncall,Valid,3\nassume,a,0,4\n"
          ∷ "root,0,r,2\n"
          ∷ [];
      printed = "fact,7,triggers free={__uu__PartialApp f}\nsum,0,0,1\n" ∷ [];
    }
    ∷ record {
      name = "contract-18-is-tot-fun-trigger";
      file = "ask,0,0\nleaf\ncall,IsTotFun,0\nall,1,1,1,1\nassume,a,0,2\nfree,y\ncall,IsTotFun,3\nroot,0,r,4\n" ∷ [];
      printed = "fact,5,triggers,{IsTotFun} free={IsTotFun}\nkept,5,a\nsum,1,1,2\n" ∷ [];
    }
    ∷ record {
      name = "contract-19-constr-id-left";
      file = "ask,0,0\nfree,x\ncall,Term_constr_id,0\nfree,n\nop,eq,1,2\nassume,a,0,3\nroot,0,r,2\n" ∷ [];
      printed = "fact,6,triggers,{Term_constr_id x},{n} free={Term_constr_id n x}\nkept,6,a\nsum,1,3,3\n" ∷ [];
    }
    ∷ record {
      name = "contract-20-nested-and";
      file = "ask,0,0\nfree,p\nfree,q\nop,eq,0,1\nall,0,1,1,0\nop,and,3,3\nop,and,2,4\nassume,c,0,5\nassume,e,0,2\n"
          ∷ "root,0,r,0\n"
          ∷ [];
      printed = "fact,8,triggers free={p q}\nfact,9,triggers,{p},{q} free={p q}\nkept,9,e\nsum,1,2,3\n" ∷ [];
    }
    ∷ record {
      name = "contract-21-and-empty-group";
      file = "ask,0,0\nfree,p\nfree,q\nall,0,1,0\nall,0,1,2,0,1\nop,and,2,3\nassume,c,0,4\nroot,0,r,0\n" ∷ [];
      printed = "fact,7,triggers,{},{p q} free={p q}\nkept,7,c\nsum,1,2,3\n" ∷ [];
    }
    ∷ record {
      name = "contract-22-parts-alone";
      file = "ask,0,0\nfree,p\nfree,q\nall,0,1,0\nall,0,1,2,0,1\nassume,a,0,2\nassume,b,0,3\nroot,0,r,0\n" ∷ [];
      printed = "fact,6,triggers,{} free={p}\nfact,7,triggers,{p q} free={p q}\nsum,0,1,1\n" ∷ [];
    }
    ∷ record {
      name = "contract-23-rule-6-before-8";
      file = "ask,0,0\nfree,f\nfree,x\ncall,Term_constr_id,1\nop,eq,0,2\nassume,equation_f,0,3\nroot,0,r,0\n" ∷ [];
      printed = "fact,6,triggers,{x} free={Term_constr_id f x}\nsum,0,0,1\n" ∷ [];
    }
    ∷ record {
      name = "contract-24-iff-empty-side";
      file = "ask,0,0\nleaf\nfree,q\ncall,p,1\nop,iff,0,2\nassume,a,0,3\ncall,p,0\nroot,0,r,4\n" ∷ [];
      printed = "fact,6,triggers,{},{p q} free={p q}\nkept,6,a\nsum,1,2,3\n" ∷ [];
    }
    ∷ record {
      name = "contract-25-labelled-true";
      file = "ask,0,0\nop,true\nlabel,0\nassume,y,0,1\n" ∷ [];
      printed = "fact,4,ambient,0 free={}\nkept,4,y\nsum,1,0,1\n" ∷ [];
    }
    ∷ record {
      name = "contract-26-ambient-no-root";
      file = "ask,0,0\nfree,p\nop,other,0\nassume,y,0,1\nall,0,1,1,0\nassume,a,0,2\n" ∷ [];
      printed = "fact,4,ambient,0 free={p}\nfact,6,triggers,{p} free={p}\nkept,4,y\nsum,1,0,1\n" ∷ [];
    }
    ∷ record {
      name = "contract-27-retained-name";
      file = "ask,0,0\nfree,p\nall,0,1,1,0\nassume,a,0,1\nretain,a\n" ∷ [];
      printed = "fact,4,triggers,{p} free={p}\nsum,0,0,1\n" ∷ [];
    }
    ∷ record {
      name = "contract-28-triggered-again";
      file = "ask,0,0\nfree,p\nfree,q\nop,eq,0,1\nassume,e,0,2\nroot,0,r,0\n" ∷ [];
      printed = "fact,5,triggers,{p},{q} free={p q}\nkept,5,e\nsum,1,2,3\n" ∷ [];
    }
    ∷ record {
      name = "contract-29-pretyping-triggered";
      file = "ask,0,0\nfree,p\nall,0,1,1,0\nassume,z,1,1\nroot,0,r,0\n" ∷ [];
      printed = "fact,4,triggers,{p} free={p}\nsum,0,1,2\n" ∷ [];
    }
    ∷ record {
      name = "contract-30-macros-one-level";
      file = "ask,0,0\nfree,h\nfree,k\ndef,g,0\ndef,h,1\nall,0,1,1,1\nassume,a,0,2\nfree,g\nroot,0,r,3\n" ∷ [];
      printed = "fact,7,triggers,{k} free={h k}\nsum,0,0,1\n" ∷ [];
    }
    ∷ record {
      name = "contract-31-pattern-name-met";
      file = "ask,0,0\nfree,p\nfree,q\nleaf\nall,2,2,1,0,1,1\nall,2,1,1,1\nassume,a,0,3\nassume,b,0,4\nroot,0,r,0\n" ∷ [];
      printed = "fact,7,triggers,{p},{q} free={p q}\nfact,8,triggers,{q} free={q}\nkept,7,a\nkept,8,b\nsum,2,3,3\n" ∷ [];
    }
    ∷ record {
      name = "contract-32-def-replaces-box";
      file = "ask,0,0\ncall,is-BoxInt\ncall,BoxInt\nall,0,1,1,1\nassume,a,0,2\nleaf\ndef,is-BoxInt,3\nroot,0,r,0\n" ∷ [];
      printed = "fact,5,triggers,{BoxInt} free={BoxInt is-BoxInt}\nsum,0,0,1\n" ∷ [];
    }
    ∷ record {
      name = "contract-33-body-not-followed";
      file = "ask,0,4\nfree,f\nfun,f\ndef,g,0\ncall,g\nroot,0,r,1\n" ∷ [];
      printed = "kept,4,g\nsum,1,0,1\n" ∷ [];
    }
    ∷ []

-- a wrong one is named in the error
pass_10 : AllPrint files_10
unfolding prints files_10
pass_10 = (refl, (refl, (refl, (refl, (refl, (refl, (refl, (refl, (refl, (refl, (refl, (refl, (refl, (refl, (refl, (refl, (refl, (refl, (refl, tt)))))))))))))))))))

-- count-before-group to dropped-facts
files_11 : List Small
files_11 =
    record {
      name = "count-before-group";
      file = "ask2,0,0,1\nfree,p\nop,eq,0,0\nassume,,2,16\n" ∷ [];
      printed = "refused,1,4\n" ∷ [];
    }
    ∷ record {
      name = "decls-by-ambient-and-root";
      file = "ask,0,4\nfree,a\nfree,b\nfree,c\nfree,d\ndef,d,0\nfun,c\ndef,b,0\nfun,a\nop,other,1,2\nassume,amb,0,4\n"
          ∷ "op,other,0,3\nroot,0,r,5\nroot,1,r,2\n"
          ∷ [];
      printed = "fact,11,ambient,0 free={b c}\nkept,11,amb\nkept,6,d\nkept,8,b\nkept,9,a\nkept,7,c\nsum,5,0,1\n" ∷ [];
    }
    ∷ record {
      name = "decls-last-met-first";
      file = "ask,0,4\nfree,f1\nfree,f2\nfree,f3\nfree,f4\nfree,f5\nfun,f2\nfun,f1\ndef,f5,0\nfun,f3\ndef,f4,0\n"
          ∷ "call,f2,0,4\nall,5,1,1,3\nassume,z,0,6\nall,2,1,1,0\nassume,a,0,7\nop,other,3,0\nroot,0,r,8\n"
          ∷ [];
      printed = "fact,14,triggers,{f4} free={f1 f2 f4 f5}\nfact,16,triggers,{f1} free={f1 f3}\nkept,16,a\nkept,14,z\n"
          ∷ "kept,9,f5\nkept,11,f4\nkept,7,f2\nkept,10,f3\nkept,8,f1\nsum,7,2,2\n"
          ∷ [];
    }
    ∷ record {
      name = "decls-no-follow";
      file = "ask,0,4\nfree,a\nfree,b\nfun,a\ndef,b,0\nroot,0,r,1\n" ∷ [];
      printed = "kept,5,b\nsum,1,0,1\n" ∷ [];
    }
    ∷ record {
      name = "decls-not-by-opening";
      file = "ask,0,4\nfree,g\nfree,h\nfun,h\ndef,g,1\nroot,0,r,0\n" ∷ [];
      printed = "kept,5,g\nsum,1,0,1\n" ∷ [];
    }
    ∷ record {
      name = "decls-of-unreached-fact";
      file = "ask,0,4\nfree,p\nfree,q\nfun,q\nall,1,1,1,1\nassume,a,0,2\nfun,p\nroot,0,r,0\n" ∷ [];
      printed = "fact,6,triggers,{q} free={q}\nkept,7,p\nsum,1,0,1\n" ∷ [];
    }
    ∷ record {
      name = "decls-other-query";
      file = "ask,0,4\nfree,g\nfun,g\nroot,1,r,0\n" ∷ [];
      printed = "sum,0,0,1\n" ∷ [];
    }
    ∷ record {
      name = "decls-same-name-as-root";
      file = "ask,0,4\nfree,g\nfun,g\nroot,0,g,0\nroot,0,g,0\n" ∷ [];
      printed = "kept,3,g\nsum,1,0,1\n" ∷ [];
    }
    ∷ record {
      name = "def-and-fun-of-a-fact-not-admitted";
      file = "ask2,0,4,1\nask2,0,4,3\nfree,p\nfree,f\nfree,d\nop,other,1,2\nassume,loose,0,1,3\nfun,f\ndef,d,0\n"
          ∷ "fun,p\nroot,0,r,0\n"
          ∷ [];
      printed = "fact,7,ambient,0 free={d f}\nkept,10,p\nsum,1,0,1\nkept,7,loose\nkept,9,d\nkept,10,p\nkept,8,f\n"
          ∷ "sum,4,0,1\n"
          ∷ [];
    }
    ∷ record {
      name = "def-kept-for-an-ambient-is-followed";
      file = "ask,0,12\nfree,f\ndef,g,0\nfun,f\nfree,g\nlabel,1\nassume,m,0,2\n" ∷ [];
      printed = "fact,7,ambient,0 free={g}\nkept,7,m\nkept,3,g\nkept,4,f\nsum,3,0,1\n" ∷ [];
    }
    ∷ record {
      name = "def-of-a-starting-macro-is-followed";
      file = "ask,0,12\nfree,is-BoxInt\nroot,0,r,0\nfun,BoxInt\nfree,BoxInt\ndef,is-BoxInt,1\n" ∷ [];
      printed = "kept,6,is-BoxInt\nkept,4,BoxInt\nsum,2,0,1\n" ∷ [];
    }
    ∷ record {
      name = "def-of-itself";
      file = "ask,0,12\nfree,a\ndef,a,0\nroot,0,r,0\n" ∷ [];
      printed = "kept,3,a\nsum,1,0,1\n" ∷ [];
    }
    ∷ record {
      name = "def-opens-whatever-the-groups";
      file = "ask2,0,4,2\nfree,p\nfree,g\ndef,g,0\nop,eq,0,0\nassume,a,0,1,2\nroot,0,r,1\n" ∷ [];
      printed = "fact,6,triggers,{p},{p} free={p}\nkept,6,a\nkept,4,g\nsum,2,2,2\n" ∷ [];
    }
    ∷ record {
      name = "def-with-a-group-is-1";
      file = "ask2,0,0,1\nfree,p\nop,eq,0,0\ndef,d,0,1\n" ∷ [];
      printed = "refused,1,4\n" ∷ [];
    }
    ∷ record {
      name = "def-with-the-name-of-a-fact-not-admitted-is-5";
      file = "ask2,0,0,1\nfree,p\nop,eq,0,0\nassume,a,0,9,1\ndef,a,0\n" ∷ [];
      printed = "refused,5,5\n" ∷ [];
    }
    ∷ record {
      name = "defs-below-or-above-what-they-open-1";
      file = "ask,0,12\nfree,g\nfree,k\nfun,k\ndef,g,1\nop,eq,1,1\nassume,a,0,2\nroot,0,r,0\n" ∷ [];
      printed = "fact,7,triggers,{k},{k} free={k}\nkept,7,a\nkept,5,g\nkept,4,k\nsum,3,2,2\n" ∷ [];
    }
    ∷ record {
      name = "defs-below-or-above-what-they-open-2";
      file = "ask,0,12\nfree,g\nfree,k\nop,eq,1,1\nassume,a,0,2\nroot,0,r,0\ndef,g,1\nfun,k\n" ∷ [];
      printed = "fact,5,triggers,{k},{k} free={k}\nkept,5,a\nkept,7,g\nkept,8,k\nsum,3,2,2\n" ∷ [];
    }
    ∷ record {
      name = "defs-in-a-circle";
      file = "ask,0,12\nfree,a\nfree,b\ndef,a,1\ndef,b,0\nroot,0,r,0\n" ∷ [];
      printed = "kept,4,a\nkept,5,b\nsum,2,0,1\n" ∷ [];
    }
    ∷ record {
      name = "disjunct-met-half-by-ask-half-by-also";
      file = "ask,0,0\nalso,1\nfree,p\nfree,q\nleaf\nall,2,1,2,0,1\nassume,a,0,3\nroot,0,r,0\nroot,1,r,1\n" ∷ [];
      printed = "fact,7,triggers,{p q} free={p q}\nsum,0,1,1\nkept,7,a\nsum,1,1,2\n" ∷ [];
    }
    ∷ record {
      name = "dropped-facts";
      file = "ask,0,0\nfree,p\nop,true,0\nassume,a,0,1\nassume,equation_a,0,1\nassume,l_quant_interp_a,0,1\n"
          ∷ "assume,assumption_a,0,1\nroot,0,r,0\n"
          ∷ [];
      printed = "fact,4,drop free={p}\nfact,5,drop free={p}\nfact,6,drop free={p}\nfact,7,triggers,{p} free={p}\n"
          ∷ "kept,7,assumption_a\nsum,1,1,2\n"
          ∷ [];
    }
    ∷ []

-- a wrong one is named in the error
pass_11 : AllPrint files_11
unfolding prints files_11
pass_11 = (refl, (refl, (refl, (refl, (refl, (refl, (refl, (refl, (refl, (refl, (refl, (refl, (refl, (refl, (refl, (refl, (refl, (refl, (refl, (refl, tt))))))))))))))))))))

-- each-group-but-one to entry-of-a-fact-not-admitted-is-no-visit
files_12 : List Small
files_12 =
    record {
      name = "each-group-but-one";
      file = "ask2,0,0,65534\nask2,0,0,65533\nask2,0,0,65279\nask2,0,0,32767\nleaf\nassume,g0,0,0,0\nassume,g1,0,1,0\n"
          ∷ "assume,g2,0,2,0\nassume,g3,0,3,0\nassume,g4,0,4,0\nassume,g5,0,5,0\nassume,g6,0,6,0\nassume,g7,0,7,0\n"
          ∷ "assume,g8,0,8,0\nassume,g9,0,9,0\nassume,g10,0,10,0\nassume,g11,0,11,0\nassume,g12,0,12,0\n"
          ∷ "assume,g13,0,13,0\nassume,g14,0,14,0\nassume,g15,0,15,0\n"
          ∷ [];
      printed = "fact,6,ambient,0 free={}\nfact,7,ambient,0 free={}\nfact,8,ambient,0 free={}\nfact,9,ambient,0 free={}\n"
          ∷ "fact,10,ambient,0 free={}\nfact,11,ambient,0 free={}\nfact,12,ambient,0 free={}\n"
          ∷ "fact,13,ambient,0 free={}\nfact,14,ambient,0 free={}\nfact,15,ambient,0 free={}\n"
          ∷ "fact,16,ambient,0 free={}\nfact,17,ambient,0 free={}\nfact,18,ambient,0 free={}\n"
          ∷ "fact,19,ambient,0 free={}\nfact,20,ambient,0 free={}\nfact,21,ambient,0 free={}\nkept,21,g15\n"
          ∷ "kept,20,g14\nkept,19,g13\nkept,18,g12\nkept,17,g11\nkept,16,g10\nkept,15,g9\nkept,14,g8\nkept,13,g7\n"
          ∷ "kept,12,g6\nkept,11,g5\nkept,10,g4\nkept,9,g3\nkept,8,g2\nkept,7,g1\nsum,15,0,1\nkept,21,g15\n"
          ∷ "kept,20,g14\nkept,19,g13\nkept,18,g12\nkept,17,g11\nkept,16,g10\nkept,15,g9\nkept,14,g8\nkept,13,g7\n"
          ∷ "kept,12,g6\nkept,11,g5\nkept,10,g4\nkept,9,g3\nkept,8,g2\nkept,6,g0\nsum,15,0,1\nkept,21,g15\n"
          ∷ "kept,20,g14\nkept,19,g13\nkept,18,g12\nkept,17,g11\nkept,16,g10\nkept,15,g9\nkept,13,g7\nkept,12,g6\n"
          ∷ "kept,11,g5\nkept,10,g4\nkept,9,g3\nkept,8,g2\nkept,7,g1\nkept,6,g0\nsum,15,0,1\nkept,20,g14\n"
          ∷ "kept,19,g13\nkept,18,g12\nkept,17,g11\nkept,16,g10\nkept,15,g9\nkept,14,g8\nkept,13,g7\nkept,12,g6\n"
          ∷ "kept,11,g5\nkept,10,g4\nkept,9,g3\nkept,8,g2\nkept,7,g1\nkept,6,g0\nsum,15,0,1\n"
          ∷ [];
    }
    ∷ record {
      name = "each-group-by-its-own-bit";
      file = "ask2,0,0,1\nask2,0,0,2\nask2,0,0,4\nask2,0,0,8\nask2,0,0,16\nask2,0,0,32\nask2,0,0,64\nask2,0,0,128\n"
          ∷ "ask2,0,0,256\nask2,0,0,512\nask2,0,0,1024\nask2,0,0,2048\nask2,0,0,4096\nask2,0,0,8192\nask2,0,0,16384\n"
          ∷ "ask2,0,0,32768\nleaf\nassume,g0,0,0,0\nassume,g1,0,1,0\nassume,g2,0,2,0\nassume,g3,0,3,0\n"
          ∷ "assume,g4,0,4,0\nassume,g5,0,5,0\nassume,g6,0,6,0\nassume,g7,0,7,0\nassume,g8,0,8,0\nassume,g9,0,9,0\n"
          ∷ "assume,g10,0,10,0\nassume,g11,0,11,0\nassume,g12,0,12,0\nassume,g13,0,13,0\nassume,g14,0,14,0\n"
          ∷ "assume,g15,0,15,0\n"
          ∷ [];
      printed = "fact,18,ambient,0 free={}\nfact,19,ambient,0 free={}\nfact,20,ambient,0 free={}\n"
          ∷ "fact,21,ambient,0 free={}\nfact,22,ambient,0 free={}\nfact,23,ambient,0 free={}\n"
          ∷ "fact,24,ambient,0 free={}\nfact,25,ambient,0 free={}\nfact,26,ambient,0 free={}\n"
          ∷ "fact,27,ambient,0 free={}\nfact,28,ambient,0 free={}\nfact,29,ambient,0 free={}\n"
          ∷ "fact,30,ambient,0 free={}\nfact,31,ambient,0 free={}\nfact,32,ambient,0 free={}\n"
          ∷ "fact,33,ambient,0 free={}\nkept,18,g0\nsum,1,0,1\nkept,19,g1\nsum,1,0,1\nkept,20,g2\nsum,1,0,1\n"
          ∷ "kept,21,g3\nsum,1,0,1\nkept,22,g4\nsum,1,0,1\nkept,23,g5\nsum,1,0,1\nkept,24,g6\nsum,1,0,1\nkept,25,g7\n"
          ∷ "sum,1,0,1\nkept,26,g8\nsum,1,0,1\nkept,27,g9\nsum,1,0,1\nkept,28,g10\nsum,1,0,1\nkept,29,g11\n"
          ∷ "sum,1,0,1\nkept,30,g12\nsum,1,0,1\nkept,31,g13\nsum,1,0,1\nkept,32,g14\nsum,1,0,1\nkept,33,g15\n"
          ∷ "sum,1,0,1\n"
          ∷ [];
    }
    ∷ record {
      name = "earlier-line-before-13";
      file = "ask,0,0\nask,0,0\nask,0,0\nask,0,0\nask,0,0\nask,0,0\nask,0,0\nask,0,0\nask,0,16\nask,0,0\nask,0,0\n"
          ∷ "ask,0,0\nask,0,0\nask,0,0\nask,0,0\nask,0,0\nask,0,0\n"
          ∷ [];
      printed = "refused,3,9\n" ∷ [];
    }
    ∷ record {
      name = "entry-of-a-fact-not-admitted-is-no-visit";
      file = "ask2,0,0,1\nfree,p\nfree,q\nall,1,1,2,0,1\nassume,a,0,1,2\nassume,b,0,0,2\nroot,0,r,0\n" ∷ [];
      printed = "fact,5,triggers,{p q} free={p q}\nfact,6,triggers,{p q} free={p q}\nsum,0,1,1\n" ∷ [];
    }
    ∷ []

-- a wrong one is named in the error
pass_12 : AllPrint files_12
unfolding prints files_12
pass_12 = (refl, (refl, (refl, (refl, tt))))

-- every-kind
files_13 : List Small
files_13 =
    record {
      name = "every-kind";
      file = "ask,0,4\nfree,SFuel\nfree,ZFuel\nfree,HasType\nfree,HasTypeZ\nfree,HasTypeFuel\nfree,Valid\n"
          ∷ "free,ApplyTT\nfree,ApplyTF\nfree,Prims.lex_t\nleaf\nfree,a\nfree,b\nfree,c\nfree,d\n"
          ∷ "op,other,0,1,2,3,4,5,6,7,8,9\nall,9,9,1,0,1,1,1,2,1,3,1,4,1,5,1,6,1,7,1,8\nassume,nine,0,15\n"
          ∷ "all,14,1,10,0,1,2,3,4,5,6,7,8,10\nassume,nine-and-a,0,16\ncall,BoxBool,9\ncall,BoxInt\nfree,BoxString\n"
          ∷ "free,BoxReal\nfree,BoxProp\nall,9,1,1,17\nassume,box-bool,0,22\nall,9,1,1,18\nassume,box-int,0,23\n"
          ∷ "all,9,1,1,19\nassume,box-string,0,24\nall,9,1,1,20\nassume,box-real,1,25\nall,9,1,1,21\n"
          ∷ "assume,box-prop,0,26\nop,iff,10,11\nassume,l_quant_interp_1,0,27\nsome,11,1,1,12\n"
          ∷ "assume,assumption_2,0,28\ncall,Tm_refine_3,10\ncall,HasType,11,29\nassume,rule-3-root,0,30\n"
          ∷ "all,10,1,1,12\nlabel,31\ncall,Prims.squash,9,32\ncall,HasType,11,33\nassume,rule-3-payload,0,34\n"
          ∷ "free,__uu__PartialApp\ncall,f@tok\ncall,ApplyTT,35,36\ncall,Valid,37\nassume,rule-4,0,38\n"
          ∷ "call,Valid,10\nassume,rule-5-valid,0,39\ncall,HasType,11,10\nassume,rule-5-has-type,0,40\n"
          ∷ "call,IsTotFun,12\nassume,rule-5-is-tot-fun,0,41\ncall,is-Tm_arrow,13\nassume,rule-5-is-tm-arrow,0,42\n"
          ∷ "call,Term_constr_id,12\nop,eq,10,43\nassume,rule-6,0,44\nop,and,31,32,28\nassume,rule-7,0,45\n"
          ∷ "op,eq,13,10\nassume,equation_8,0,46\ncall,Prims.hasEq,9,10\ncall,Valid,47\ncall,Prims.hasEq,9,11\n"
          ∷ "call,Valid,49\nop,iff,48,50\nassume,rule-9-has-eq,0,51\nassume,rule-9,0,27\nassume,rule-10,0,46\n"
          ∷ "op,true,10\nassume,rule-11,0,52\nlet,10,11,12\nassume,rule-12,0,53\ncall,is-BoxBool,9\ncall,is-BoxInt\n"
          ∷ "free,is-BoxString\nfree,is-BoxReal\nfree,is-BoxProp\nop,and,14,54,55,56,57,58\ndef,d,9\ndef,g,53\n"
          ∷ "fun,a\nfun,c\nfun,f\nretain,a,b\nroot,0,goal,59\ncall,g\nroot,1,other,60\n"
          ∷ [];
      printed = "fact,18,triggers,{},{},{},{},{},{},{},{},{} free={}\nfact,20,triggers,{a} free={a}\n"
          ∷ "fact,27,triggers,{BoxBool} free={BoxBool}\nfact,29,triggers,{BoxInt} free={BoxInt}\n"
          ∷ "fact,31,triggers,{BoxString} free={BoxString}\nfact,33,triggers,{BoxReal} free={BoxReal}\n"
          ∷ "fact,35,triggers,{BoxProp} free={BoxProp}\nfact,37,triggers,{a} free={a b}\n"
          ∷ "fact,39,triggers,{b c} free={b c}\nfact,42,ambient,1 free={Tm_refine_3 a b}\n"
          ∷ "fact,47,triggers,{c} free={Prims.squash a b c}\n"
          ∷ "fact,52,triggers,{f@tok},{f} free={__uu__PartialApp f@tok}\nfact,54,triggers,{a} free={a}\n"
          ∷ "fact,56,triggers,{b} free={a b}\nfact,58,triggers,{c} free={IsTotFun c}\n"
          ∷ "fact,60,triggers,{d} free={d is-Tm_arrow}\nfact,63,triggers,{c} free={Term_constr_id a c}\n"
          ∷ "fact,65,triggers,{c},{c} free={a b c}\nfact,67,triggers,{d} free={a d}\n"
          ∷ "fact,73,triggers,{a} free={Prims.hasEq a b}\nfact,74,triggers,{a},{b} free={a b}\n"
          ∷ "fact,75,triggers,{d},{a} free={a d}\nfact,77,drop free={a}\nfact,79,ambient,0 free={a b c}\n"
          ∷ "kept,27,box-bool\nkept,29,box-int\nkept,35,box-prop\nkept,31,box-string\nkept,67,equation_8\n"
          ∷ "kept,37,l_quant_interp_1\nkept,20,nine-and-a\nkept,75,rule-10\nkept,56,rule-5-has-type\n"
          ∷ "kept,60,rule-5-is-tm-arrow\nkept,54,rule-5-valid\nkept,74,rule-9\nkept,73,rule-9-has-eq\n"
          ∷ "kept,79,rule-12\nkept,42,rule-3-root\nkept,86,d\nkept,89,c\nkept,88,a\nsum,18,17,3\n"
          ∷ [];
    }
    ∷ []

-- a wrong one is named in the error
pass_13 : AllPrint files_13
unfolding prints files_13
pass_13 = (refl, tt)

-- fact-not-admitted-brings-nothing to groups-65536-is-3
files_14 : List Small
files_14 =
    record {
      name = "fact-not-admitted-brings-nothing";
      file = "ask2,0,0,1\nfree,p\nfree,q\nall,1,1,1,0\nassume,on_p,0,1,2\nall,0,1,1,1\nassume,on_q,0,0,3\nroot,0,r,0\n" ∷ [];
      printed = "fact,5,triggers,{p} free={p q}\nfact,7,triggers,{q} free={p q}\nsum,0,0,1\n" ∷ [];
    }
    ∷ record {
      name = "fact-not-admitted-makes-no-round";
      file = "ask2,0,0,2\nfree,p\nop,eq,0,0\nassume,a,0,0,1\nroot,0,r,0\n" ∷ [];
      printed = "fact,4,triggers,{p},{p} free={p}\nsum,0,0,1\n" ∷ [];
    }
    ∷ record {
      name = "fact-not-admitted-with-a-taken-name-is-5";
      file = "ask2,0,0,1\nfree,p\nop,eq,0,0\nfun,a\nassume,a,0,1,1\n" ∷ [];
      printed = "refused,5,5\n" ∷ [];
    }
    ∷ record {
      name = "fact-not-reached-named-in-a-body-is-not-kept";
      file = "ask,0,12\nfree,x\ndef,g,0\nfree,y\nop,eq,1,1\nassume,x,0,2\nfree,g\nroot,0,r,3\n" ∷ [];
      printed = "fact,6,triggers,{y},{y} free={y}\nkept,3,g\nsum,1,0,1\n" ∷ [];
    }
    ∷ record {
      name = "fact-of-a-group-not-admitted-does-not-fire";
      file = "ask2,0,0,1\nfree,p\nop,eq,0,0\nassume,a,0,1,1\nassume,b,0,0,1\nroot,0,r,0\n" ∷ [];
      printed = "fact,4,triggers,{p},{p} free={p}\nfact,5,triggers,{p},{p} free={p}\nkept,5,b\nsum,1,2,2\n" ∷ [];
    }
    ∷ record {
      name = "fact-with-the-name-of-one-not-admitted-is-5";
      file = "ask2,0,0,1\nfree,p\nop,eq,0,0\nassume,a,0,1,1\nassume,a,0,0,1\n" ∷ [];
      printed = "refused,5,5\n" ∷ [];
    }
    ∷ record {
      name = "following-meets-no-more-names";
      file = "ask,0,12\nfree,f2\ndef,f1,0\nfree,f1\ndef,f0,1\nfree,f0\nroot,0,r,2\nop,eq,0,0\nassume,e,0,3\n" ∷ [];
      printed = "fact,9,triggers,{f2},{f2} free={f2}\nkept,5,f0\nkept,3,f1\nsum,2,0,1\n" ∷ [];
    }
    ∷ record {
      name = "free-names-everywhere";
      file = "ask,0,0\nfree,a\nfree,b\nfree,c\nfree,d\nfree,e\nfree,f\nfree,g\nfree,h\ncall,i,0\nop,other,1,8\n"
          ∷ "all,2,2,1,3,1,9\nsome,4,1,1,10\nlet,5,6,11\nlabel,12\nop,eq,7,13\nassume,x,0,14\n"
          ∷ "assume,equation_y,0,14\n"
          ∷ [];
      printed = "fact,17,triggers,{h},{a b c d e f g i} free={a b c d e f g h i}\n"
          ∷ "fact,18,triggers,{h} free={a b c d e f g h i}\nsum,0,0,1\n"
          ∷ [];
    }
    ∷ record {
      name = "fun-with-a-group-is-1";
      file = "ask2,0,0,1\nfree,p\nop,eq,0,0\nfun,f,0\n" ∷ [];
      printed = "refused,1,4\n" ∷ [];
    }
    ∷ record {
      name = "funs-go-by-the-roots-lines-1";
      file = "ask,0,4\nfree,p\nfree,q\nfun,p\nfun,q\nroot,0,r,0\nroot,0,r,1\n" ∷ [];
      printed = "kept,5,q\nkept,4,p\nsum,2,0,1\n" ∷ [];
    }
    ∷ record {
      name = "funs-go-by-the-roots-lines-2";
      file = "ask,0,4\nfree,p\nfree,q\nfun,p\nfun,q\nroot,0,r,1\nroot,0,r,0\n" ∷ [];
      printed = "kept,4,p\nkept,5,q\nsum,2,0,1\n" ∷ [];
    }
    ∷ record {
      name = "group-16-is-3";
      file = "ask2,0,0,1\nfree,p\nop,eq,0,0\nassume,a,0,16,1\n" ∷ [];
      printed = "refused,3,4\n" ∷ [];
    }
    ∷ record {
      name = "group-before-a-taken-name";
      file = "ask2,0,0,1\nfree,p\nop,eq,0,0\nfun,a\nassume,a,0,16,1\n" ∷ [];
      printed = "refused,3,5\n" ∷ [];
    }
    ∷ record {
      name = "group-before-t";
      file = "ask2,0,0,1\nfree,p\nop,eq,0,0\nassume,a,0,16,9\n" ∷ [];
      printed = "refused,3,4\n" ∷ [];
    }
    ∷ record {
      name = "group-empty-is-3";
      file = "ask2,0,0,1\nfree,p\nop,eq,0,0\nassume,a,0,,1\n" ∷ [];
      printed = "refused,3,4\n" ∷ [];
    }
    ∷ record {
      name = "group-of-a-letter-is-3";
      file = "ask2,0,0,1\nfree,p\nop,eq,0,0\nassume,a,0,g,9\n" ∷ [];
      printed = "refused,3,4\n" ∷ [];
    }
    ∷ record {
      name = "group-with-a-leading-zero-is-3";
      file = "ask2,0,0,1\nfree,p\nop,eq,0,0\nassume,a,0,01,1\n" ∷ [];
      printed = "refused,3,4\n" ∷ [];
    }
    ∷ record {
      name = "groups-0-admits-none";
      file = "ask2,0,0,0\nfree,p\nop,eq,0,0\nassume,a,0,0,1\nroot,0,r,0\n" ∷ [];
      printed = "fact,4,triggers,{p},{p} free={p}\nsum,0,0,1\n" ∷ [];
    }
    ∷ record {
      name = "groups-65535-admits-all";
      file = "ask2,0,0,65535\nfree,p\nop,eq,0,0\nassume,a,0,15,1\nassume,b,0,7,1\nassume,c,0,0,1\nroot,0,r,0\n" ∷ [];
      printed = "fact,4,triggers,{p},{p} free={p}\nfact,5,triggers,{p},{p} free={p}\nfact,6,triggers,{p},{p} free={p}\n"
          ∷ "kept,4,a\nkept,5,b\nkept,6,c\nsum,3,6,2\n"
          ∷ [];
    }
    ∷ record {
      name = "groups-65536-is-3";
      file = "ask2,0,0,65536\n" ∷ [];
      printed = "refused,3,1\n" ∷ [];
    }
    ∷ []

-- a wrong one is named in the error
pass_14 : AllPrint files_14
unfolding prints files_14
pass_14 = (refl, (refl, (refl, (refl, (refl, (refl, (refl, (refl, (refl, (refl, (refl, (refl, (refl, (refl, (refl, (refl, (refl, (refl, (refl, (refl, tt))))))))))))))))))))

-- groups-empty-is-3 to hide-after-term-is-1
files_15 : List Small
files_15 =
    record {
      name = "groups-empty-is-3";
      file = "ask2,0,0,\n" ∷ [];
      printed = "refused,3,1\n" ∷ [];
    }
    ∷ record {
      name = "groups-of-each-ask";
      file = "ask2,0,0,1\nask2,0,0,2\nask2,0,0,3\nfree,p\nop,eq,0,0\nassume,a,0,0,1\nassume,b,0,1,1\nroot,0,r,0\n" ∷ [];
      printed = "fact,6,triggers,{p},{p} free={p}\nfact,7,triggers,{p},{p} free={p}\nkept,6,a\nsum,1,2,2\nkept,7,b\n"
          ∷ "sum,1,2,2\nkept,6,a\nkept,7,b\nsum,2,4,2\n"
          ∷ [];
    }
    ∷ record {
      name = "groups-of-one-ask-leave-nothing-for-the-next";
      file = "ask2,0,0,3\nask2,0,0,2\nask2,0,0,1\nfree,p\nfree,q\nall,1,1,1,0\nassume,on_p,0,0,2\nall,1,1,1,1\n"
          ∷ "assume,on_q,0,1,3\nroot,0,r,0\n"
          ∷ [];
      printed = "fact,7,triggers,{p} free={p q}\nfact,9,triggers,{q} free={q}\nkept,7,on_p\nkept,9,on_q\nsum,2,2,3\n"
          ∷ "sum,0,0,1\nkept,7,on_p\nsum,1,1,2\n"
          ∷ [];
    }
    ∷ record {
      name = "groups-with-a-leading-zero-is-3";
      file = "ask2,0,0,01\n" ∷ [];
      printed = "refused,3,1\n" ∷ [];
    }
    ∷ record {
      name = "hidden-fun-and-def-are-not-kept";
      file = "ask,0,4\nhide,f\nhide,g\nfree,f\nfree,g\nfree,h\nop,other,0,1,2\nfun,f\ndef,g,0\nfun,h\nroot,0,r,3\n" ∷ [];
      printed = "kept,10,h\nsum,1,0,1\n" ∷ [];
    }
    ∷ record {
      name = "hidden-name-is-not-followed";
      file = "ask,0,12\nhide,f\nfree,f\ndef,g,0\nfun,f\nfree,g\nroot,0,r,1\n" ∷ [];
      printed = "kept,4,g\nsum,1,0,1\n" ∷ [];
    }
    ∷ record {
      name = "hidden-name-is-not-opened-by-a-def-of-a-starting-macro";
      file = "ask,0,0\nhide,BoxInt\nfree,__uu__PartialApp\nfree,BoxInt\ncall,ApplyTT,0,1\ncall,Valid,2\nassume,t,0,3\n"
          ∷ "def,is-BoxInt,1\nfree,is-BoxInt\nroot,0,r,4\n"
          ∷ [];
      printed = "fact,7,triggers,{BoxInt} free={__uu__PartialApp}\nsum,0,0,1\n" ∷ [];
    }
    ∷ record {
      name = "hidden-starting-macro-opens-nothing";
      file = "ask,0,0\nhide,is-BoxInt\nfree,__uu__PartialApp\nfree,BoxInt\ncall,ApplyTT,0,1\ncall,Valid,2\n"
          ∷ "assume,t,0,3\nfree,is-BoxInt\nroot,0,r,4\n"
          ∷ [];
      printed = "fact,7,triggers,{BoxInt} free={BoxInt __uu__PartialApp}\nsum,0,0,1\n" ∷ [];
    }
    ∷ record {
      name = "hidden-trimmed-token-is-never-met";
      file = "ask,0,0\nhide,f\nfree,__uu__PartialApp\nfree,f@tok\ncall,ApplyTT,0,1\ncall,Valid,2\nassume,t,0,3\n"
          ∷ "free,f\nroot,0,r,4\nroot,1,r,1\n"
          ∷ [];
      printed = "fact,7,triggers,{f@tok},{f} free={__uu__PartialApp f@tok}\nsum,0,0,1\n" ∷ [];
    }
    ∷ record {
      name = "hide-255-bytes-passes";
      file = "ask,0,0\n"
          ∷ "hide,xxxxxxxxxxxxxxxxxxxxxxxxxxxxxxxxxxxxxxxxxxxxxxxxxxxxxxxxxxxxxxxxxxxxxxxxxxxxxxxxxxxxxxxxxxxxxxxxxxxxxxxxxxxxxxxxxxxxxxxxxxxxxxxxxxxxxxxxxxxxxxxxxxxxxxxxxxxxxxxxxxxxxxxxxxxxxxxxxxxxxxxxxxxxxxxxxxxxxxxxxxxxxxxxxxxxxxxxxxxxxxxxxxxxxxxxxxxxxxxxxxxxxxxxxxxxxxx\n"
          ∷ [];
      printed = "sum,0,0,1\n" ∷ [];
    }
    ∷ record {
      name = "hide-256-bytes";
      file = "ask,0,0\nhide,p\n"
          ∷ "hide,xxxxxxxxxxxxxxxxxxxxxxxxxxxxxxxxxxxxxxxxxxxxxxxxxxxxxxxxxxxxxxxxxxxxxxxxxxxxxxxxxxxxxxxxxxxxxxxxxxxxxxxxxxxxxxxxxxxxxxxxxxxxxxxxxxxxxxxxxxxxxxxxxxxxxxxxxxxxxxxxxxxxxxxxxxxxxxxxxxxxxxxxxxxxxxxxxxxxxxxxxxxxxxxxxxxxxxxxxxxxxxxxxxxxxxxxxxxxxxxxxxxxxxxxxxxxxxxx\n"
          ∷ [];
      printed = "refused,2,3\n" ∷ [];
    }
    ∷ record {
      name = "hide-after-also";
      file = "ask,0,0\nalso,1\nhide,q\nfree,p\nfree,q\nop,eq,0,0\nassume,a,0,2\nop,eq,1,1\nassume,b,0,3\nroot,0,r,0\n"
          ∷ "root,1,r,1\n"
          ∷ [];
      printed = "fact,7,triggers,{p},{p} free={p}\nfact,9,triggers,{},{} free={}\nkept,7,a\nsum,1,2,2\nkept,7,a\n"
          ∷ "sum,1,0,1\n"
          ∷ [];
    }
    ∷ record {
      name = "hide-after-record-is-1";
      file = "ask,0,0\nhide,p\nfun,p\nhide,q\n" ∷ [];
      printed = "refused,1,4\n" ∷ [];
    }
    ∷ record {
      name = "hide-after-term-is-1";
      file = "ask,0,0\nhide,p\nfree,p\nhide,q\n" ∷ [];
      printed = "refused,1,4\n" ∷ [];
    }
    ∷ []

-- a wrong one is named in the error
pass_15 : AllPrint files_15
unfolding prints files_15
pass_15 = (refl, (refl, (refl, (refl, (refl, (refl, (refl, (refl, (refl, (refl, (refl, (refl, (refl, (refl, tt))))))))))))))

-- hide-and-trimmed-token-1 to hide-in-a-macro-body
files_16 : List Small
files_16 =
    record {
      name = "hide-and-trimmed-token-1";
      file = "ask,0,0\nhide,w\nfree,__uu__PartialApp\nfree,f@tok\ncall,ApplyTT,0,1\ncall,Valid,2\nfree,f\nfree,w\n"
          ∷ "assume,t,0,3\nroot,0,r,4\nretain,w\n"
          ∷ [];
      printed = "fact,9,triggers,{f@tok},{f} free={__uu__PartialApp f@tok}\nkept,9,t\nsum,1,2,3\n" ∷ [];
    }
    ∷ record {
      name = "hide-and-trimmed-token-2";
      file = "ask,0,0\nhide,w\nfree,__uu__PartialApp\nfree,f@tok\ncall,ApplyTT,0,1\ncall,Valid,2\nretain,w\nfree,f\n"
          ∷ "free,w\nroot,0,r,4\nassume,t,0,3\n"
          ∷ [];
      printed = "fact,11,triggers,{f@tok},{f} free={__uu__PartialApp f@tok}\nkept,11,t\nsum,1,2,3\n" ∷ [];
    }
    ∷ record {
      name = "hide-between-also-lines-is-1";
      file = "ask,0,0\nalso,1\nhide,q\nalso,0\nfree,p\nfree,q\nop,eq,0,0\nassume,a,0,2\nop,eq,1,1\nassume,b,0,3\n"
          ∷ "root,0,r,0\nroot,1,r,1\n"
          ∷ [];
      printed = "refused,1,4\n" ∷ [];
    }
    ∷ record {
      name = "hide-def-is-not-opened";
      file = "ask,0,4\nhide,g\nfree,g\nfree,q\ndef,g,1\nop,eq,1,1\nassume,a,0,2\nfun,q\nroot,0,r,0\n" ∷ [];
      printed = "fact,7,triggers,{q},{q} free={q}\nsum,0,0,1\n" ∷ [];
    }
    ∷ record {
      name = "hide-empties-disjuncts";
      file = "ask,0,0\nhide,v\nhide,w\nfree,v\ncall,w,0\nfree,p\nall,2,1,1,1\nassume,never,0,3\nall,2,2,1,1,1,2\n"
          ∷ "assume,either,0,4\nop,eq,0,2\nassume,equal,0,5\nop,iff,1,0\nassume,both_hidden,0,6\n"
          ∷ "assume,equation_hidden,0,5\nroot,0,r,2\nroot,0,r,1\n"
          ∷ [];
      printed = "fact,8,triggers,{} free={p}\nfact,10,triggers,{},{p} free={p}\nfact,12,triggers,{},{p} free={p}\n"
          ∷ "fact,14,triggers,{},{} free={}\nfact,15,triggers,{} free={p}\nkept,10,either\nkept,12,equal\nsum,2,2,2\n"
          ∷ [];
    }
    ∷ record {
      name = "hide-empty-name-is-2";
      file = "ask,0,0\nhide,\n" ∷ [];
      printed = "refused,2,2\n" ∷ [];
    }
    ∷ record {
      name = "hide-everywhere-in-a-term";
      file = "ask,0,4\nhide,w\nfree,w\nfree,p\ncall,w,1\nsome,1,1,1,0\nlet,2,0\nlabel,4\nop,other,3,5\n"
          ∷ "all,6,2,1,2,1,3\nassume,a,0,7\ndef,d,6\nfun,w\nfun,p\nroot,0,r,6\n"
          ∷ [];
      printed = "fact,11,triggers,{p},{p} free={p}\nkept,11,a\nkept,14,p\nsum,2,2,2\n" ∷ [];
    }
    ∷ record {
      name = "hide-heads-of-rules";
      file = "ask,0,0\nhide,Prims.squash\nhide,Prims.hasEq\nhide,__uu__PartialApp\nhide,Tm_refine_1\n"
          ∷ "hide,is-Tm_arrow\nhide,f@tok\nfree,p\nfree,q\ncall,Prims.squash,0\ncall,HasType,0,2\nassume,squash,0,3\n"
          ∷ "call,Prims.hasEq,0,1\ncall,Valid,4\nop,iff,5,5\nassume,has_eq,0,6\nfree,__uu__PartialApp\nfree,f@tok\n"
          ∷ "call,ApplyTT,7,8\ncall,Valid,9\nassume,partial,0,10\nfree,Tm_refine_1\ncall,HasType,1,11\n"
          ∷ "assume,refined,0,12\ncall,is-Tm_arrow,1\nassume,arrow,0,13\nfree,f\nroot,0,r,14\n"
          ∷ [];
      printed = "fact,12,ambient,1 free={p}\nfact,16,triggers,{q} free={p q}\nfact,21,triggers,{f@tok},{f} free={}\n"
          ∷ "fact,24,ambient,1 free={q}\nfact,26,triggers,{q} free={q}\nkept,26,arrow\nkept,16,has_eq\n"
          ∷ "kept,21,partial\nkept,24,refined\nkept,12,squash\nsum,5,3,2\n"
          ∷ [];
    }
    ∷ record {
      name = "hide-in-a-macro-body";
      file = "ask,0,0\nhide,w\nfree,g\nfree,w\nfree,q\nop,other,1,2\ndef,g,3\nop,eq,1,0\nfree,__uu__PartialApp\n"
          ∷ "call,ApplyTT,5,1\ncall,Valid,6\nassume,t,0,7\nall,1,1,1,2\nassume,b,0,8\nroot,0,r,0\n"
          ∷ [];
      printed = "fact,12,triggers,{w} free={__uu__PartialApp}\nfact,14,triggers,{q} free={q}\nkept,14,b\nsum,1,1,2\n" ∷ [];
    }
    ∷ []

-- a wrong one is named in the error
pass_16 : AllPrint files_16
unfolding prints files_16
pass_16 = (refl, (refl, (refl, (refl, (refl, (refl, (refl, (refl, (refl, tt)))))))))

-- hide-in-a-scanned-fact to hide-token-is-filed
files_17 : List Small
files_17 =
    record {
      name = "hide-in-a-scanned-fact";
      file = "ask,0,0\nhide,w\nfree,p\nfree,w\nfree,z\nop,other,1\nall,3,1,1,0\nassume,a,0,4\nop,eq,1,2\n"
          ∷ "assume,b,0,5\nroot,0,r,0\n"
          ∷ [];
      printed = "fact,8,triggers,{p} free={p}\nfact,10,triggers,{},{z} free={z}\nkept,8,a\nsum,1,1,2\n" ∷ [];
    }
    ∷ record {
      name = "hide-in-rule-2";
      file = "ask,0,0\nhide,w\nfree,w\nfree,p\nop,other,0,1\nassume,assumption_a,0,2\nroot,0,r,1\n" ∷ [];
      printed = "fact,6,triggers,{p} free={p}\nkept,6,assumption_a\nsum,1,1,2\n" ∷ [];
    }
    ∷ record {
      name = "hide-in-the-new-form";
      file = "ask2,0,0,1\nhide,p\nfree,p\nop,eq,0,0\nassume,a,0,0,1\nroot,0,r,0\n" ∷ [];
      printed = "fact,5,triggers,{},{} free={}\nsum,0,0,1\n" ∷ [];
    }
    ∷ record {
      name = "hide-leaves-the-shapes-of-rules";
      file = "ask,0,0\nhide,IsTotFun\nhide,Term_constr_id\nfree,p\ncall,IsTotFun,0\nassume,a,0,1\nfree,q\n"
          ∷ "call,Term_constr_id,2\nop,eq,0,3\nassume,b,0,4\nroot,0,r,2\n"
          ∷ [];
      printed = "fact,6,triggers,{p} free={p}\nfact,10,triggers,{q} free={p q}\nkept,6,a\nkept,10,b\nsum,2,2,3\n" ∷ [];
    }
    ∷ record {
      name = "hide-makes-one-name-enough";
      file = "ask,0,0\nhide,w\nfree,p\ncall,w,0\nfree,q\nall,2,1,1,1\nassume,a,0,3\nroot,0,r,0\n" ∷ [];
      printed = "fact,7,triggers,{p} free={p q}\nkept,7,a\nsum,1,1,2\n" ∷ [];
    }
    ∷ record {
      name = "hide-misplaced-before-its-count";
      file = "ask,0,0\nretain\nhide,a,b\n" ∷ [];
      printed = "refused,1,3\n" ∷ [];
    }
    ∷ record {
      name = "hide-misplaced-before-its-fields";
      file = "ask,0,0\nleaf\nhide,\n" ∷ [];
      printed = "refused,1,3\n" ∷ [];
    }
    ∷ record {
      name = "hide-name-is-taken-once";
      file = "ask,0,4\nhide,f\nhide,f\nfree,f\nfree,p\nfun,f\nroot,0,f,0\nroot,0,f,1\ndef,f,1\n" ∷ [];
      printed = "refused,5,9\n" ∷ [];
    }
    ∷ record {
      name = "hide-name-not-spelled-again";
      file = "ask,0,0\nhide,zz\nfree,p\nop,eq,0,0\nassume,a,0,1\nroot,0,r,0\n" ∷ [];
      printed = "fact,5,triggers,{p},{p} free={p}\nkept,5,a\nsum,1,2,2\n" ∷ [];
    }
    ∷ record {
      name = "hide-no-0a";
      file = "ask,0,0\nhide,p" ∷ [];
      printed = "refused,1,2\n" ∷ [];
    }
    ∷ record {
      name = "hide-of-a-fact-name-keeps-the-fact";
      file = "ask,0,0\nhide,a\nfree,p\nop,eq,0,0\nassume,a,0,1\nroot,0,r,0\n" ∷ [];
      printed = "fact,5,triggers,{p},{p} free={p}\nkept,5,a\nsum,1,2,2\n" ∷ [];
    }
    ∷ record {
      name = "hide-on-line-1";
      file = "hide,p\nask,0,0\n" ∷ [];
      printed = "refused,1,1\n" ∷ [];
    }
    ∷ record {
      name = "hide-one-of-the-nine";
      file = "ask,0,0\nhide,HasType\nfree,p\ncall,HasType,0,0\nassume,a,0,1\nroot,0,r,0\n" ∷ [];
      printed = "fact,5,triggers,{p} free={p}\nkept,5,a\nsum,1,1,2\n" ∷ [];
    }
    ∷ record {
      name = "hide-repeats-a-name";
      file = "ask,0,0\nhide,p\nhide,p\nfree,p\nroot,0,r,0\n" ∷ [];
      printed = "sum,0,0,1\n" ∷ [];
    }
    ∷ record {
      name = "hide-rule-3-ambient-root";
      file = "ask,0,0\nhide,w\nfree,w\nfree,p\nall,1,1,1,0\ncall,Prims.squash,0,2\ncall,HasType,0,3\nassume,m,0,4\n"
          ∷ "op,eq,1,1\nassume,a,0,5\n"
          ∷ [];
      printed = "fact,8,ambient,1 free={Prims.squash p}\nfact,10,triggers,{p},{p} free={p}\nkept,10,a\nkept,8,m\n"
          ∷ "sum,2,2,2\n"
          ∷ [];
    }
    ∷ record {
      name = "hide-rule-3-not-hidden";
      file = "ask,0,0\nretain\nfree,w\nfree,p\nall,1,1,1,0\ncall,Prims.squash,0,2\ncall,HasType,0,3\nassume,m,0,4\n"
          ∷ "op,eq,1,1\nassume,a,0,5\n"
          ∷ [];
      printed = "fact,8,triggers,{w} free={Prims.squash p w}\nfact,10,triggers,{p},{p} free={p}\nsum,0,0,1\n" ∷ [];
    }
    ∷ record {
      name = "hide-the-nine";
      file = "ask,0,0\nhide,ApplyTF\nhide,ApplyTT\nhide,HasType\nhide,HasTypeFuel\nhide,HasTypeZ\nhide,Prims.lex_t\n"
          ∷ "hide,SFuel\nhide,Valid\nhide,ZFuel\nhide,Valid\nfree,p\ncall,Valid,0\nassume,a,0,1\n"
          ∷ "free,__uu__PartialApp\nfree,f@tok\ncall,ApplyTT,2,3\ncall,Valid,4\nassume,t,0,5\nroot,0,r,0\n"
          ∷ "root,0,r,3\n"
          ∷ [];
      printed = "fact,14,triggers,{p} free={p}\nfact,19,triggers,{f@tok},{f} free={__uu__PartialApp f@tok}\nkept,14,a\n"
          ∷ "kept,19,t\nsum,2,2,2\n"
          ∷ [];
    }
    ∷ record {
      name = "hide-then-ask";
      file = "ask,0,0\nhide,p\nask,0,0\n" ∷ [];
      printed = "refused,1,3\n" ∷ [];
    }
    ∷ record {
      name = "hide-token-is-filed";
      file = "ask,0,0\nhide,f@tok\nfree,__uu__PartialApp\nfree,f@tok\ncall,ApplyTT,0,1\ncall,Valid,2\nassume,t,0,3\n"
          ∷ "free,f\nop,other,1,4\nroot,0,r,5\n"
          ∷ [];
      printed = "fact,7,triggers,{f@tok},{f} free={__uu__PartialApp}\nkept,7,t\nsum,1,1,2\n" ∷ [];
    }
    ∷ []

-- a wrong one is named in the error
pass_17 : AllPrint files_17
unfolding prints files_17
pass_17 = (refl, (refl, (refl, (refl, (refl, (refl, (refl, (refl, (refl, (refl, (refl, (refl, (refl, (refl, (refl, (refl, (refl, (refl, (refl, tt)))))))))))))))))))

-- hide-token-opened-by-a-starting-macro to macro-opens-to-excluded-name
files_18 : List Small
files_18 =
    record {
      name = "hide-token-opened-by-a-starting-macro";
      file = "ask,0,0\nhide,BoxInt\nfree,__uu__PartialApp\nfree,BoxInt\ncall,ApplyTT,0,1\ncall,Valid,2\nassume,t,0,3\n"
          ∷ "free,is-BoxInt\nroot,0,r,4\n"
          ∷ [];
      printed = "fact,7,triggers,{BoxInt} free={__uu__PartialApp}\nkept,7,t\nsum,1,1,2\n" ∷ [];
    }
    ∷ record {
      name = "hide-two-names-is-1";
      file = "ask,0,0\nhide,p,q\n" ∷ [];
      printed = "refused,1,2\n" ∷ [];
    }
    ∷ record {
      name = "hide-with-groups";
      file = "ask2,0,0,1\nask2,0,0,2\nhide,w\nfree,w\nfree,p\nop,and\ncall,w,1\nall,1,1,1,3\nassume,a,0,0,4\n"
          ∷ "assume,b,0,1,4\nroot,0,r,1\n"
          ∷ [];
      printed = "fact,9,triggers,{p} free={p}\nfact,10,triggers,{p} free={p}\nkept,9,a\nsum,1,1,2\nkept,10,b\nsum,1,1,2\n" ∷ [];
    }
    ∷ record {
      name = "hide-without-name-is-1";
      file = "ask,0,0\nhide\n" ∷ [];
      printed = "refused,1,2\n" ∷ [];
    }
    ∷ record {
      name = "macro-box-each";
      file = "ask,0,0\nfree,is-BoxBool\nfree,is-BoxInt\nfree,is-BoxString\nfree,is-BoxReal\nfree,is-BoxProp\n"
          ∷ "free,BoxBool\nfree,BoxInt\nfree,BoxString\nfree,BoxReal\nfree,BoxProp\nleaf\nall,10,1,1,5\n"
          ∷ "assume,a1,0,11\nall,10,1,1,6\nassume,a2,0,12\nall,10,1,1,7\nassume,a3,0,13\nall,10,1,1,8\n"
          ∷ "assume,a4,0,14\nall,10,1,1,9\nassume,a5,0,15\nop,and,0,1,2,3,4\nroot,0,r,16\n"
          ∷ [];
      printed = "fact,14,triggers,{BoxBool} free={BoxBool}\nfact,16,triggers,{BoxInt} free={BoxInt}\n"
          ∷ "fact,18,triggers,{BoxString} free={BoxString}\nfact,20,triggers,{BoxReal} free={BoxReal}\n"
          ∷ "fact,22,triggers,{BoxProp} free={BoxProp}\nkept,14,a1\nkept,16,a2\nkept,18,a3\nkept,20,a4\nkept,22,a5\n"
          ∷ "sum,5,5,2\n"
          ∷ [];
    }
    ∷ record {
      name = "macro-box-fun-does-not-replace";
      file = "ask,0,4\ncall,is-BoxInt\ncall,BoxInt\nfun,is-BoxInt\nfun,BoxInt\nleaf\nall,2,1,1,1\nassume,a,0,3\n"
          ∷ "root,0,r,0\n"
          ∷ [];
      printed = "fact,8,triggers,{BoxInt} free={BoxInt}\nkept,8,a\nkept,4,is-BoxInt\nkept,5,BoxInt\nsum,3,1,2\n" ∷ [];
    }
    ∷ record {
      name = "macro-box-not-spelled";
      file = "ask,0,4\ncall,is-BoxInt\nfun,is-BoxInt\nroot,0,r,0\n" ∷ [];
      printed = "kept,3,is-BoxInt\nsum,1,0,1\n" ∷ [];
    }
    ∷ record {
      name = "macro-box-other-way";
      file = "ask,0,0\nfree,BoxInt\nfree,is-BoxInt\nall,0,1,1,1\nassume,a,0,2\nroot,0,r,0\n" ∷ [];
      printed = "fact,5,triggers,{is-BoxInt} free={BoxInt is-BoxInt}\nsum,0,0,1\n" ∷ [];
    }
    ∷ record {
      name = "macro-box-replaced-by-other";
      file = "ask,0,0\ncall,is-BoxReal\nfree,BoxReal\nfree,p\nall,1,1,1,1\nassume,a,0,3\nall,2,1,1,2\nassume,b,0,4\n"
          ∷ "root,0,r,0\ndef,is-BoxReal,2\n"
          ∷ [];
      printed = "fact,6,triggers,{BoxReal} free={BoxReal}\nfact,8,triggers,{p} free={p}\nkept,8,b\nsum,1,1,2\n" ∷ [];
    }
    ∷ record {
      name = "macro-box-trimmed-token";
      file = "ask,0,0\nfree,__uu__PartialApp\nfree,BoxInt@tok\ncall,ApplyTT,0,1\ncall,Valid,2\nassume,a,0,3\n"
          ∷ "call,is-BoxInt\nroot,0,r,4\n"
          ∷ [];
      printed = "fact,6,triggers,{BoxInt@tok},{BoxInt} free={BoxInt@tok __uu__PartialApp}\nkept,6,a\nsum,1,2,3\n" ∷ [];
    }
    ∷ record {
      name = "macro-def-after-root";
      file = "ask,0,0\nfree,g\nfree,h\nall,1,1,1,1\nassume,a,0,2\nroot,0,r,0\ndef,g,1\n" ∷ [];
      printed = "fact,5,triggers,{h} free={h}\nkept,5,a\nsum,1,1,2\n" ∷ [];
    }
    ∷ record {
      name = "macro-of-excluded-name";
      file = "ask,0,4\nfree,h\ndef,Valid,0\nall,0,1,1,0\nassume,a,0,1\ncall,Valid\nroot,0,r,2\n" ∷ [];
      printed = "fact,5,triggers,{h} free={h}\nsum,0,0,1\n" ∷ [];
    }
    ∷ record {
      name = "macro-of-itself";
      file = "ask,0,4\nfree,g\ndef,g,0\nall,0,1,1,0\nassume,a,0,1\nroot,0,r,0\n" ∷ [];
      printed = "fact,5,triggers,{g} free={g}\nkept,5,a\nkept,3,g\nsum,2,1,2\n" ∷ [];
    }
    ∷ record {
      name = "macro-opened-in-the-stretch";
      file = "ask,0,0\nalso,1\nfree,g\nfree,k\ndef,g,1\nop,eq,1,1\nassume,a,0,2\nroot,1,r,0\n" ∷ [];
      printed = "fact,7,triggers,{k},{k} free={k}\nsum,0,0,1\nkept,7,a\nsum,1,2,2\n" ∷ [];
    }
    ∷ record {
      name = "macro-opens-to-excluded-name";
      file = "ask,0,0\nfree,__uu__PartialApp\nfree,HasType@tok\ncall,ApplyTT,0,1\ncall,Valid,2\nassume,a,0,3\n"
          ∷ "call,HasType\ndef,g,4\ncall,g\nroot,0,r,5\n"
          ∷ [];
      printed = "fact,6,triggers,{HasType@tok},{HasType} free={HasType@tok __uu__PartialApp}\nsum,0,0,1\n" ∷ [];
    }
    ∷ []

-- a wrong one is named in the error
pass_18 : AllPrint files_18
unfolding prints files_18
pass_18 = (refl, (refl, (refl, (refl, (refl, (refl, (refl, (refl, (refl, (refl, (refl, (refl, (refl, (refl, (refl, tt)))))))))))))))

-- macro-second-level-by-fact to option-2-admits-no-group
files_19 : List Small
files_19 =
    record {
      name = "macro-second-level-by-fact";
      file = "ask,0,0\nfree,h\nfree,k\nfree,g\ndef,g,0\ndef,h,1\nall,0,1,1,0\nassume,a,0,3\nall,1,1,1,1\n"
          ∷ "assume,b,0,4\nroot,0,r,2\n"
          ∷ [];
      printed = "fact,8,triggers,{h} free={h}\nfact,10,triggers,{k} free={k}\nkept,8,a\nkept,10,b\nsum,2,2,3\n" ∷ [];
    }
    ∷ record {
      name = "macro-second-level-not-by-trimmed-token";
      file = "ask,0,0\nfree,h\nfree,k\nfree,g\ndef,g,0\ndef,h,1\nfree,__uu__PartialApp\nfree,h@tok\ncall,ApplyTT,3,4\n"
          ∷ "call,Valid,5\nassume,a,0,6\nall,1,1,1,1\nassume,b,0,7\nroot,0,r,2\n"
          ∷ [];
      printed = "fact,11,triggers,{h@tok},{h} free={__uu__PartialApp h@tok}\nfact,13,triggers,{k} free={k}\nkept,11,a\n"
          ∷ "sum,1,2,3\n"
          ∷ [];
    }
    ∷ record {
      name = "misplaced-also-is-1-before-its-fields";
      file = "ask,0,0\nleaf\nalso,999\n" ∷ [];
      printed = "refused,1,3\n" ∷ [];
    }
    ∷ record {
      name = "misplaced-ask-is-1-before-its-fields";
      file = "ask,0,0\nfun,p\nask,999,99\n" ∷ [];
      printed = "refused,1,3\n" ∷ [];
    }
    ∷ record {
      name = "name-before-group";
      file = "ask2,0,0,1\nfree,p\nop,eq,0,0\nassume,,0,16,1\n" ∷ [];
      printed = "refused,2,4\n" ∷ [];
    }
    ∷ record {
      name = "name-bytes";
      file = "ask,0,4\nfree,!\nfree,~\nfree,\"\nfree,ask\nfree,65535\ncall,leaf,0,1,2,3,4\nfun,~\nfun,!\nfun,\"\n"
          ∷ "fun,ask\nfun,65535\ndef,leaf,0\nroot,0,root,5\n"
          ∷ [];
      printed = "kept,13,leaf\nkept,8,~\nkept,11,ask\nkept,12,65535\nkept,10,\"\nkept,9,!\nsum,6,0,1\n" ∷ [];
    }
    ∷ record {
      name = "name-of-a-fact-not-admitted-is-taken";
      file = "ask2,0,0,1\nfree,p\nop,eq,0,0\nassume,a,0,1,1\nfun,a\n" ∷ [];
      printed = "refused,5,5\n" ∷ [];
    }
    ∷ record {
      name = "no-ambients-no-def-to-follow";
      file = "ask,0,13\nfree,f\ndef,g,0\nfun,f\nfree,g\nlabel,1\nassume,m,0,2\n" ∷ [];
      printed = "fact,7,ambient,0 free={g}\nsum,0,0,1\n" ∷ [];
    }
    ∷ record {
      name = "no-ask-on-line-1-is-1";
      file = "free,p\nask,0,0\n" ∷ [];
      printed = "refused,1,1\n" ∷ [];
    }
    ∷ record {
      name = "not-retained-round";
      file = "ask,0,0\nfree,p\nall,0,1,1,0\nassume,z,1,1\nroot,0,r,0\n" ∷ [];
      printed = "fact,4,triggers,{p} free={p}\nsum,0,1,2\n" ∷ [];
    }
    ∷ record {
      name = "ok-free-255";
      file = "ask,0,0\n"
          ∷ "free,xxxxxxxxxxxxxxxxxxxxxxxxxxxxxxxxxxxxxxxxxxxxxxxxxxxxxxxxxxxxxxxxxxxxxxxxxxxxxxxxxxxxxxxxxxxxxxxxxxxxxxxxxxxxxxxxxxxxxxxxxxxxxxxxxxxxxxxxxxxxxxxxxxxxxxxxxxxxxxxxxxxxxxxxxxxxxxxxxxxxxxxxxxxxxxxxxxxxxxxxxxxxxxxxxxxxxxxxxxxxxxxxxxxxxxxxxxxxxxxxxxxxxxxxxxxxxxx\n"
          ∷ [];
      printed = "sum,0,0,1\n" ∷ [];
    }
    ∷ record {
      name = "ok-free-edge";
      file = "ask,0,0\nfree,!\nfree,~\n" ∷ [];
      printed = "sum,0,0,1\n" ∷ [];
    }
    ∷ record {
      name = "ok-let";
      file = "ask,0,0\nleaf\nlet,0\n" ∷ [];
      printed = "sum,0,0,1\n" ∷ [];
    }
    ∷ record {
      name = "ok-term5-4";
      file = "ask,0,0\nleaf\nleaf\nleaf\nleaf\nleaf\nlabel,4\n" ∷ [];
      printed = "sum,0,0,1\n" ∷ [];
    }
    ∷ record {
      name = "older-form-is-group-0-all-admitted";
      file = "ask,0,0\nfree,p\nop,eq,0,0\nassume,a,0,1\nroot,0,r,0\n" ∷ [];
      printed = "fact,4,triggers,{p},{p} free={p}\nkept,4,a\nsum,1,2,2\n" ∷ [];
    }
    ∷ record {
      name = "older-form-with-several-asks-and-also";
      file = "ask,0,0\nalso,1\nask,1,4\nhide,q\nfree,p\nop,eq,0,0\nassume,a,0,1\nfun,p\nroot,1,r,0\n" ∷ [];
      printed = "fact,7,triggers,{p},{p} free={p}\nsum,0,0,1\nkept,7,a\nsum,1,2,2\nkept,7,a\nkept,8,p\nsum,2,2,2\n" ∷ [];
    }
    ∷ record {
      name = "one-of-the-nine-is-not-followed";
      file = "ask,0,12\nfree,ApplyTT\ndef,g,0\nfun,ApplyTT\nfree,g\nroot,0,r,1\n" ∷ [];
      printed = "kept,3,g\nsum,1,0,1\n" ∷ [];
    }
    ∷ record {
      name = "option-1-with-groups";
      file = "ask2,0,1,3\nask2,0,0,1\nask2,0,0,3\nfree,p\nop,eq,0,0\nassume,a,0,0,1\nleaf\nassume,loose,0,1,2\n"
          ∷ "root,0,r,0\n"
          ∷ [];
      printed = "fact,6,triggers,{p},{p} free={p}\nfact,8,ambient,0 free={}\nkept,6,a\nsum,1,2,2\nkept,6,a\nsum,1,2,2\n"
          ∷ "kept,6,a\nkept,8,loose\nsum,2,2,2\n"
          ∷ [];
    }
    ∷ record {
      name = "option-1-with-option-4";
      file = "ask,0,5\nfree,x\nfree,Tm_refine_1\ncall,HasType,0,1\nassume,h,0,2\nfun,x\ndef,Tm_refine_1,0\n" ∷ [];
      printed = "fact,5,ambient,1 free={Tm_refine_1 x}\nsum,0,0,1\n" ∷ [];
    }
    ∷ record {
      name = "option-2-admits-no-group";
      file = "ask2,0,2,1\nask2,0,2,2\nfree,p\nop,eq,0,0\nassume,a,1,1,1\nroot,0,r,0\n" ∷ [];
      printed = "fact,5,triggers,{p},{p} free={p}\nsum,0,0,1\nkept,5,a\nsum,1,2,2\n" ∷ [];
    }
    ∷ []

-- a wrong one is named in the error
pass_19 : AllPrint files_19
unfolding prints files_19
pass_19 = (refl, (refl, (refl, (refl, (refl, (refl, (refl, (refl, (refl, (refl, (refl, (refl, (refl, (refl, (refl, (refl, (refl, (refl, (refl, (refl, tt))))))))))))))))))))

-- option-4-alone-stops-at-the-def to pretyping-fact-admitted-makes-a-round
files_20 : List Small
files_20 =
    record {
      name = "option-4-alone-stops-at-the-def";
      file = "ask,0,4\nfree,f\ndef,g,0\nfun,f\nfree,g\nroot,0,r,1\n" ∷ [];
      printed = "kept,3,g\nsum,1,0,1\n" ∷ [];
    }
    ∷ record {
      name = "options-12-follow-the-body";
      file = "ask,0,12\nfree,f\ndef,g,0\nfun,f\nfree,g\nroot,0,r,1\n" ∷ [];
      printed = "kept,3,g\nkept,4,f\nsum,2,0,1\n" ∷ [];
    }
    ∷ record {
      name = "options-12-with-groups";
      file = "ask2,0,12,1\nask2,0,12,2\nask2,0,8,2\nfree,p\nfree,d\nfree,e\nop,other,1\nassume,loose,0,1,3\ndef,d,2\n"
          ∷ "fun,e\nroot,0,r,0\n"
          ∷ [];
      printed = "fact,8,ambient,0 free={d}\nsum,0,0,1\nkept,8,loose\nkept,9,d\nkept,10,e\nsum,3,0,1\nkept,8,loose\n"
          ∷ "sum,1,0,1\n"
          ∷ [];
    }
    ∷ record {
      name = "options-15-pass";
      file = "ask,0,15\nfree,f\ndef,g,0\nfun,f\nfree,g\nroot,0,r,1\n" ∷ [];
      printed = "kept,3,g\nkept,4,f\nsum,2,0,1\n" ∷ [];
    }
    ∷ record {
      name = "options-before-groups";
      file = "ask2,0,x,y\n" ∷ [];
      printed = "refused,3,1\n" ∷ [];
    }
    ∷ record {
      name = "options-of-each-ask";
      file = "ask,0,0\nask,0,1\nask,0,2\nask,0,4\nfree,p\nfree,q\nlabel,1\nop,eq,0,0\nassume,a,1,3\nassume,m,0,2\n"
          ∷ "fun,p\nroot,0,r,0\n"
          ∷ [];
      printed = "fact,9,triggers,{p},{p} free={p}\nfact,10,ambient,0 free={q}\nkept,10,m\nsum,1,2,2\nsum,0,2,2\n"
          ∷ "kept,9,a\nkept,10,m\nsum,2,2,2\nkept,10,m\nkept,11,p\nsum,2,2,2\n"
          ∷ [];
    }
    ∷ record {
      name = "order-fact-and-roots";
      file = "ask,0,4\nfree,d\nfree,e\nfree,f\nfree,g\nfree,h\nop,other,3,4\nop,and,2,3\nop,and,0,2\nfun,h\nfun,d\n"
          ∷ "fun,e\nfun,g\nfun,f\nassume,a,0,5\nroot,0,r,6\nroot,1,o,1\nroot,0,s,7\n"
          ∷ [];
      printed = "fact,15,ambient,0 free={g h}\nkept,15,a\nkept,11,d\nkept,14,f\nkept,10,h\nkept,13,g\nsum,5,0,1\n" ∷ [];
    }
    ∷ record {
      name = "order-no-option-4";
      file = "ask,0,0\nfree,n1\nfree,n2\nleaf\nop,and,0,1\nfun,n1\ndef,n2,2\nroot,0,r,3\n" ∷ [];
      printed = "sum,0,0,1\n" ∷ [];
    }
    ∷ record {
      name = "order-of-facts";
      file = "ask,0,4\nfree,p\nfree,v\nfree,w\nfree,x\nfree,y\nall,2,1,1,0\nall,4,1,1,0\nfun,w\nfun,v\nfun,y\nfun,x\n"
          ∷ "assume,z,0,5\nassume,a,0,6\nassume,m,0,1\nassume,n,0,3\nroot,0,r,0\n"
          ∷ [];
      printed = "fact,13,triggers,{p} free={p w}\nfact,14,triggers,{p} free={p y}\nfact,15,ambient,0 free={v}\n"
          ∷ "fact,16,ambient,0 free={x}\nkept,14,a\nkept,13,z\nkept,16,n\nkept,15,m\nkept,10,v\nkept,12,x\nkept,9,w\n"
          ∷ "kept,11,y\nsum,8,2,2\n"
          ∷ [];
    }
    ∷ record {
      name = "order-three-orders";
      file = "ask,0,4\nfree,n1\nfree,n2\nfree,n3\nfree,n4\nfree,n5\nfree,n6\nleaf\nop,and,0,1,2,3,4,5\nfun,n3\n"
          ∷ "def,n4,6\ndef,n2,6\nfun,n1\nfun,n5\ndef,n6,6\nroot,0,r,7\n"
          ∷ [];
      printed = "kept,15,n6\nkept,11,n4\nkept,12,n2\nkept,14,n5\nkept,10,n3\nkept,13,n1\nsum,6,0,1\n" ∷ [];
    }
    ∷ record {
      name = "order-two-facts";
      file = "ask,0,4\nfree,f\nfree,g\nfree,k\nop,other,0,1\nop,other,1,2\nfun,g\nfun,f\nfun,k\nassume,a,0,3\n"
          ∷ "assume,b,0,4\n"
          ∷ [];
      printed = "fact,10,ambient,0 free={f g}\nfact,11,ambient,0 free={g k}\nkept,11,b\nkept,10,a\nkept,8,f\nkept,9,k\n"
          ∷ "kept,7,g\nsum,5,0,1\n"
          ∷ [];
    }
    ∷ record {
      name = "other-form-is-1-before-13";
      file = "ask2,0,0,1\nask2,0,0,1\nask2,0,0,1\nask2,0,0,1\nask2,0,0,1\nask2,0,0,1\nask2,0,0,1\nask2,0,0,1\n"
          ∷ "ask2,0,0,1\nask2,0,0,1\nask2,0,0,1\nask2,0,0,1\nask2,0,0,1\nask2,0,0,1\nask2,0,0,1\nask2,0,0,1\n"
          ∷ "ask,0,0\n"
          ∷ [];
      printed = "refused,1,17\n" ∷ [];
    }
    ∷ record {
      name = "passes-may-differ-rounds-may-not-1";
      file = "ask,0,0\nfree,p\nfree,q\nop,eq,0,1\nop,eq,1,1\nassume,a,0,2\nassume,b,0,3\nroot,0,r,0\n" ∷ [];
      printed = "fact,6,triggers,{p},{q} free={p q}\nfact,7,triggers,{q},{q} free={q}\nkept,6,a\nkept,7,b\nsum,2,4,3\n" ∷ [];
    }
    ∷ record {
      name = "passes-may-differ-rounds-may-not-2";
      file = "ask,0,0\nfree,p\nfree,q\nop,eq,0,1\nop,eq,1,1\nassume,b,0,3\nassume,a,0,2\nroot,0,r,0\n" ∷ [];
      printed = "fact,6,triggers,{q},{q} free={q}\nfact,7,triggers,{p},{q} free={p q}\nkept,7,a\nkept,6,b\nsum,2,4,3\n" ∷ [];
    }
    ∷ record {
      name = "pattern-names-of-a-body-are-followed";
      file = "ask,0,12\nfree,f\nleaf\nall,1,1,1,0\ndef,g,2\nfun,f\nfree,g\nroot,0,r,3\n" ∷ [];
      printed = "kept,5,g\nkept,6,f\nsum,2,0,1\n" ∷ [];
    }
    ∷ record {
      name = "pretyping-fact-admitted-makes-a-round";
      file = "ask2,0,0,1\nask2,0,0,2\nask2,0,2,2\nfree,p\nop,eq,0,0\nassume,a,1,1,1\nroot,0,r,0\n" ∷ [];
      printed = "fact,6,triggers,{p},{p} free={p}\nsum,0,0,1\nsum,0,2,2\nkept,6,a\nsum,1,2,2\n" ∷ [];
    }
    ∷ []

-- a wrong one is named in the error
pass_20 : AllPrint files_20
unfolding prints files_20
pass_20 = (refl, (refl, (refl, (refl, (refl, (refl, (refl, (refl, (refl, (refl, (refl, (refl, (refl, (refl, (refl, (refl, tt))))))))))))))))

-- query-twice-in-a-chain-adds-none to r-cr-op
files_21 : List Small
files_21 =
    record {
      name = "query-twice-in-a-chain-adds-none";
      file = "ask,0,0\nalso,0\nfree,p\nfree,q\nop,eq,0,0\nassume,a,0,2\nop,eq,1,1\nassume,b,0,3\nroot,0,r,0\n"
          ∷ "root,1,r,1\n"
          ∷ [];
      printed = "fact,6,triggers,{p},{p} free={p}\nfact,8,triggers,{q},{q} free={q}\nkept,6,a\nsum,1,2,2\nkept,6,a\n"
          ∷ "sum,1,0,1\n"
          ∷ [];
    }
    ∷ record {
      name = "query-without-roots-adds-none";
      file = "ask,0,0\nalso,9\nfree,p\nfree,q\nop,eq,0,0\nassume,a,0,2\nop,eq,1,1\nassume,b,0,3\nroot,0,r,0\n"
          ∷ "root,1,r,1\n"
          ∷ [];
      printed = "fact,6,triggers,{p},{p} free={p}\nfact,8,triggers,{q},{q} free={q}\nkept,6,a\nsum,1,2,2\nkept,6,a\n"
          ∷ "sum,1,0,1\n"
          ∷ [];
    }
    ∷ record {
      name = "r-3-beats-later-no-0a";
      file = "ask,0,0\nlabel,x\nleaf" ∷ [];
      printed = "refused,3,2\n" ∷ [];
    }
    ∷ record {
      name = "r-5-def-fun";
      file = "ask,0,0\nleaf\ndef,a,0\nfun,a\n" ∷ [];
      printed = "refused,5,4\n" ∷ [];
    }
    ∷ record {
      name = "r-5-fun-assume";
      file = "ask,0,0\nleaf\nfun,a\nassume,a,0,0\n" ∷ [];
      printed = "refused,5,4\n" ∷ [];
    }
    ∷ record {
      name = "r-all-alone";
      file = "ask,0,0\nleaf\nall\n" ∷ [];
      printed = "refused,1,3\n" ∷ [];
    }
    ∷ record {
      name = "r-all-g-65536";
      file = "ask,0,0\nleaf\nall,0,65536\n" ∷ [];
      printed = "refused,3,3\n" ∷ [];
    }
    ∷ record {
      name = "r-all-g-huge-lacking";
      file = "ask,0,0\nleaf\nall,0,65535\n" ∷ [];
      printed = "refused,1,3\n" ∷ [];
    }
    ∷ record {
      name = "r-all-lacking-count";
      file = "ask,0,0\nleaf\nall,0,1\n" ∷ [];
      printed = "refused,1,3\n" ∷ [];
    }
    ∷ record {
      name = "r-ask-2";
      file = "ask,0\n" ∷ [];
      printed = "refused,1,1\n" ∷ [];
    }
    ∷ record {
      name = "r-ask-comma";
      file = "ask,0,0,\n" ∷ [];
      printed = "refused,1,1\n" ∷ [];
    }
    ∷ record {
      name = "r-ask-huge";
      file = "ask,18446744073709551616,0\n" ∷ [];
      printed = "refused,3,1\n" ∷ [];
    }
    ∷ record {
      name = "r-assume-3";
      file = "ask,0,0\nleaf\nassume,,2\n" ∷ [];
      printed = "refused,1,3\n" ∷ [];
    }
    ∷ record {
      name = "r-assume-4";
      file = "ask,0,0\nleaf\nassume,a,1,1\n" ∷ [];
      printed = "refused,4,3\n" ∷ [];
    }
    ∷ record {
      name = "r-assume-4-before-5";
      file = "ask,0,0\nleaf\nfun,a\nassume,a,0,1\n" ∷ [];
      printed = "refused,4,4\n" ∷ [];
    }
    ∷ record {
      name = "r-call-65535";
      file = "ask,0,0\ncall,f,65535\n" ∷ [];
      printed = "refused,4,2\n" ∷ [];
    }
    ∷ record {
      name = "r-call-alone";
      file = "ask,0,0\ncall\n" ∷ [];
      printed = "refused,1,2\n" ∷ [];
    }
    ∷ record {
      name = "r-call-comma";
      file = "ask,0,0\nleaf\ncall,f,\n" ∷ [];
      printed = "refused,3,3\n" ∷ [];
    }
    ∷ record {
      name = "r-call-own";
      file = "ask,0,0\nleaf\ncall,f,1\n" ∷ [];
      printed = "refused,4,3\n" ∷ [];
    }
    ∷ record {
      name = "r-cr-op";
      file = "ask,0,0\nop,true\r\n" ∷ [];
      printed = "refused,1,2\n" ∷ [];
    }
    ∷ []

-- a wrong one is named in the error
pass_21 : AllPrint files_21
unfolding prints files_21
pass_21 = (refl, (refl, (refl, (refl, (refl, (refl, (refl, (refl, (refl, (refl, (refl, (refl, (refl, (refl, (refl, (refl, (refl, (refl, (refl, (refl, tt))))))))))))))))))))

-- r-def-2 to r-some-lacking-t
files_22 : List Small
files_22 =
    record {
      name = "r-def-2";
      file = "ask,0,0\ndef,a\n" ∷ [];
      printed = "refused,1,2\n" ∷ [];
    }
    ∷ record {
      name = "r-empty";
      file = [];
      printed = "refused,1,1\n" ∷ [];
    }
    ∷ record {
      name = "r-empty-line";
      file = "ask,0,0\n\n" ∷ [];
      printed = "refused,1,2\n" ∷ [];
    }
    ∷ record {
      name = "r-free-00";
      file = "ask,0,0\nfree,\0\n" ∷ [];
      printed = "refused,2,2\n" ∷ [];
    }
    ∷ record {
      name = "r-free-256";
      file = "ask,0,0\n"
          ∷ "free,xxxxxxxxxxxxxxxxxxxxxxxxxxxxxxxxxxxxxxxxxxxxxxxxxxxxxxxxxxxxxxxxxxxxxxxxxxxxxxxxxxxxxxxxxxxxxxxxxxxxxxxxxxxxxxxxxxxxxxxxxxxxxxxxxxxxxxxxxxxxxxxxxxxxxxxxxxxxxxxxxxxxxxxxxxxxxxxxxxxxxxxxxxxxxxxxxxxxxxxxxxxxxxxxxxxxxxxxxxxxxxxxxxxxxxxxxxxxxxxxxxxxxxxxxxxxxxxx\n"
          ∷ [];
      printed = "refused,2,2\n" ∷ [];
    }
    ∷ record {
      name = "r-free-80";
      file = "ask,0,0\nfree,\u{80}\n" ∷ [];
      printed = "refused,2,2\n" ∷ [];
    }
    ∷ record {
      name = "r-leaf-comma";
      file = "ask,0,0\nleaf,\n" ∷ [];
      printed = "refused,1,2\n" ∷ [];
    }
    ∷ record {
      name = "r-let-alone";
      file = "ask,0,0\nlet\n" ∷ [];
      printed = "refused,1,2\n" ∷ [];
    }
    ∷ record {
      name = "r-no-0a-1";
      file = "ask,0,0" ∷ [];
      printed = "refused,1,1\n" ∷ [];
    }
    ∷ record {
      name = "r-no-0a-2";
      file = "ask,0,0\nleaf" ∷ [];
      printed = "refused,1,2\n" ∷ [];
    }
    ∷ record {
      name = "r-op-word";
      file = "ask,0,0\nop,false\n" ∷ [];
      printed = "refused,1,2\n" ∷ [];
    }
    ∷ record {
      name = "r-op-word-first";
      file = "ask,0,0\nop,false,99\n" ∷ [];
      printed = "refused,1,2\n" ∷ [];
    }
    ∷ record {
      name = "r-retain-comma";
      file = "ask,0,0\nretain,\n" ∷ [];
      printed = "refused,2,2\n" ∷ [];
    }
    ∷ record {
      name = "r-root-3";
      file = "ask,0,0\nleaf\nroot,0,r\n" ∷ [];
      printed = "refused,1,3\n" ∷ [];
    }
    ∷ record {
      name = "r-root-q-256";
      file = "ask,0,0\nleaf\nroot,256,,9\n" ∷ [];
      printed = "refused,3,3\n" ∷ [];
    }
    ∷ record {
      name = "r-some-3-before-lacking";
      file = "ask,0,0\nleaf\nsome,0,1,2,x\n" ∷ [];
      printed = "refused,3,3\n" ∷ [];
    }
    ∷ record {
      name = "r-some-bad-body-first";
      file = "ask,0,0\nleaf\nsome,x\n" ∷ [];
      printed = "refused,3,3\n" ∷ [];
    }
    ∷ record {
      name = "r-some-count-01";
      file = "ask,0,0\nleaf\nsome,0,1,01,0\n" ∷ [];
      printed = "refused,3,3\n" ∷ [];
    }
    ∷ record {
      name = "r-some-lacking-second-count";
      file = "ask,0,0\nleaf\nsome,0,2,0\n" ∷ [];
      printed = "refused,1,3\n" ∷ [];
    }
    ∷ record {
      name = "r-some-lacking-t";
      file = "ask,0,0\nleaf\nsome,0,1,2,0\n" ∷ [];
      printed = "refused,1,3\n" ∷ [];
    }
    ∷ []

-- a wrong one is named in the error
pass_22 : AllPrint files_22
unfolding prints files_22
pass_22 = (refl, (refl, (refl, (refl, (refl, (refl, (refl, (refl, (refl, (refl, (refl, (refl, (refl, (refl, (refl, (refl, (refl, (refl, (refl, (refl, tt))))))))))))))))))))

-- r-term5-5 to rounds-not-retained-each-round-option-2
files_23 : List Small
files_23 =
    record {
      name = "r-term5-5";
      file = "ask,0,0\nleaf\nleaf\nleaf\nleaf\nleaf\nlabel,5\n" ∷ [];
      printed = "refused,4,7\n" ∷ [];
    }
    ∷ record {
      name = "r-upper";
      file = "ask,0,0\nLeaf\n" ∷ [];
      printed = "refused,1,2\n" ∷ [];
    }
    ∷ record {
      name = "reached-facts-by-their-bits";
      file = "ask2,0,0,32768\nask2,0,0,1\nask2,0,0,32769\nfree,p\nop,eq,0,0\nassume,last,0,15,1\nassume,first,0,0,1\n"
          ∷ "root,0,r,0\n"
          ∷ [];
      printed = "fact,6,triggers,{p},{p} free={p}\nfact,7,triggers,{p},{p} free={p}\nkept,6,last\nsum,1,2,2\n"
          ∷ "kept,7,first\nsum,1,2,2\nkept,7,first\nkept,6,last\nsum,2,4,2\n"
          ∷ [];
    }
    ∷ record {
      name = "records-between-terms-or-after-1";
      file = "ask,0,0\nfree,p\nroot,0,r,0\nfree,q\nop,eq,0,1\nassume,a,0,2\nop,eq,1,1\nassume,b,0,3\n" ∷ [];
      printed = "fact,6,triggers,{p},{q} free={p q}\nfact,8,triggers,{q},{q} free={q}\nkept,6,a\nkept,8,b\nsum,2,4,3\n" ∷ [];
    }
    ∷ record {
      name = "records-between-terms-or-after-2";
      file = "ask,0,0\nfree,p\nfree,q\nop,eq,0,1\nop,eq,1,1\nassume,b,0,3\nassume,a,0,2\nroot,0,r,0\n" ∷ [];
      printed = "fact,6,triggers,{q},{q} free={q}\nfact,7,triggers,{p},{q} free={p q}\nkept,7,a\nkept,6,b\nsum,2,4,3\n" ∷ [];
    }
    ∷ record {
      name = "repeated-roots-and-retained";
      file = "ask,0,0\nfree,a\nfun,a\nretain,a,a,b\nretain\nroot,0,a,0\nroot,0,a,0\nroot,1,b,0\ndef,b,0\n" ∷ [];
      printed = "sum,0,0,1\n" ∷ [];
    }
    ∷ record {
      name = "retain-no-effect";
      file = "ask,0,0\nretain\nretain,a,b,a\nleaf\nassume,a,0,0\n" ∷ [];
      printed = "fact,5,ambient,0 free={}\nkept,5,a\nsum,1,0,1\n" ∷ [];
    }
    ∷ record {
      name = "root-with-a-group-is-1";
      file = "ask2,0,0,1\nfree,p\nop,eq,0,0\nroot,0,r,0,1\n" ∷ [];
      printed = "refused,1,4\n" ∷ [];
    }
    ∷ record {
      name = "roots-of-own-query-for-funs";
      file = "ask,0,4\nask,1,4\nask,2,4\nfun,p\nfun,q\nfree,p\nfree,q\nroot,0,r,0\nroot,1,r,1\n" ∷ [];
      printed = "kept,4,p\nsum,1,0,1\nkept,5,q\nsum,1,0,1\nsum,0,0,1\n" ∷ [];
    }
    ∷ record {
      name = "roots-of-the-chain-go-by-line";
      file = "ask,0,4\nalso,1\nfun,p\nfun,q\nfree,p\nfree,q\nroot,1,r,0\nroot,0,r,1\n" ∷ [];
      printed = "kept,4,q\nsum,1,0,1\nkept,4,q\nkept,3,p\nsum,2,0,1\n" ∷ [];
    }
    ∷ record {
      name = "rounds-disjunct-in-two-rounds";
      file = "ask,0,0\nfree,p\nfree,q\nleaf\nall,1,1,1,0\nassume,a,0,3\nall,2,1,2,0,1\nassume,b,0,4\nroot,0,r,0\n" ∷ [];
      printed = "fact,6,triggers,{p} free={p q}\nfact,8,triggers,{p q} free={p q}\nkept,6,a\nkept,8,b\nsum,2,3,3\n" ∷ [];
    }
    ∷ record {
      name = "rounds-empty-disjunct-late";
      file = "ask,0,0\nfree,p\nfree,q\nleaf\nall,1,1,1,0\nassume,a,0,3\nall,2,2,0,1,1\nassume,b,0,4\nroot,0,r,0\n" ∷ [];
      printed = "fact,6,triggers,{p} free={p q}\nfact,8,triggers,{},{q} free={q}\nkept,6,a\nkept,8,b\nsum,2,2,3\n" ∷ [];
    }
    ∷ record {
      name = "rounds-empty-disjuncts-only";
      file = "ask,0,0\nfree,p\nall,0,3,0,0,0\nassume,a,0,1\nroot,0,r,0\n" ∷ [];
      printed = "fact,4,triggers,{},{},{} free={p}\nsum,0,0,1\n" ∷ [];
    }
    ∷ record {
      name = "rounds-equal-disjuncts-count-apart";
      file = "ask,0,0\nfree,p\nleaf\nall,1,3,1,0,1,0,1,0\nassume,a,0,2\nroot,0,r,0\n" ∷ [];
      printed = "fact,5,triggers,{p},{p},{p} free={p}\nkept,5,a\nsum,1,3,2\n" ∷ [];
    }
    ∷ record {
      name = "rounds-name-met-twice";
      file = "ask,0,0\nfree,p\nall,0,1,1,0\nassume,a,0,1\nassume,b,0,1\nroot,0,r,0\nroot,0,s,0\n" ∷ [];
      printed = "fact,4,triggers,{p} free={p}\nfact,5,triggers,{p} free={p}\nkept,4,a\nkept,5,b\nsum,2,2,2\n" ∷ [];
    }
    ∷ record {
      name = "rounds-no-root";
      file = "ask,1,0\nfree,p\nall,0,1,1,0\nassume,a,0,1\nroot,0,r,0\n" ∷ [];
      printed = "fact,4,triggers,{p} free={p}\nsum,0,0,1\n" ∷ [];
    }
    ∷ record {
      name = "rounds-not-retained-brings-nothing";
      file = "ask,0,0\nfree,p\nfree,q\nall,1,1,1,0\nassume,z,1,2\nleaf\nall,3,1,1,1\nassume,f,0,4\nroot,0,r,0\n" ∷ [];
      printed = "fact,5,triggers,{p} free={p q}\nfact,8,triggers,{q} free={q}\nsum,0,1,2\n" ∷ [];
    }
    ∷ record {
      name = "rounds-not-retained-each-round";
      file = "ask,0,0\nfree,p\nfree,q\nfree,s\nall,0,3,1,0,1,1,1,2\nassume,z,1,3\nall,1,1,1,0\nassume,a,0,4\n"
          ∷ "all,2,1,1,1\nassume,b,0,5\nroot,0,r,0\n"
          ∷ [];
      printed = "fact,6,triggers,{p},{q},{s} free={p q s}\nfact,8,triggers,{p} free={p q}\n"
          ∷ "fact,10,triggers,{q} free={q s}\nkept,8,a\nkept,10,b\nsum,2,5,4\n"
          ∷ [];
    }
    ∷ record {
      name = "rounds-not-retained-each-round-option-2";
      file = "ask,0,2\nfree,p\nfree,q\nfree,s\nall,0,3,1,0,1,1,1,2\nassume,z,1,3\nall,1,1,1,0\nassume,a,0,4\n"
          ∷ "all,2,1,1,1\nassume,b,0,5\nroot,0,r,0\n"
          ∷ [];
      printed = "fact,6,triggers,{p},{q},{s} free={p q s}\nfact,8,triggers,{p} free={p q}\n"
          ∷ "fact,10,triggers,{q} free={q s}\nkept,8,a\nkept,10,b\nkept,6,z\nsum,3,5,3\n"
          ∷ [];
    }
    ∷ []

-- a wrong one is named in the error
pass_23 : AllPrint files_23
unfolding prints files_23
pass_23 = (refl, (refl, (refl, (refl, (refl, (refl, (refl, (refl, (refl, (refl, (refl, (refl, (refl, (refl, (refl, (refl, (refl, (refl, (refl, tt)))))))))))))))))))

-- rounds-of-the-stretch-are-not-the-fresh-ones to rule-1-three
files_24 : List Small
files_24 =
    record {
      name = "rounds-of-the-stretch-are-not-the-fresh-ones";
      file = "ask,0,0\nalso,1\nfree,p\nfree,q\nfree,s\nop,eq,0,1\nassume,a,0,3\nop,eq,1,2\nassume,b,0,4\nfree,t\n"
          ∷ "free,u\nop,eq,5,6\nassume,c,0,7\nroot,0,r,0\nroot,1,r,5\n"
          ∷ [];
      printed = "fact,7,triggers,{p},{q} free={p q}\nfact,9,triggers,{q},{s} free={q s}\n"
          ∷ "fact,13,triggers,{t},{u} free={t u}\nkept,7,a\nkept,9,b\nsum,2,4,4\nkept,7,a\nkept,9,b\nkept,13,c\n"
          ∷ "sum,3,2,3\n"
          ∷ [];
    }
    ∷ record {
      name = "rounds-reached-again-with-another";
      file = "ask,0,0\nfree,p\nfree,q\nop,eq,0,1\nassume,e,0,2\nleaf\nall,3,1,1,1\nassume,f,0,4\nroot,0,r,0\n" ∷ [];
      printed = "fact,5,triggers,{p},{q} free={p q}\nfact,8,triggers,{q} free={q}\nkept,5,e\nkept,8,f\nsum,2,3,3\n" ∷ [];
    }
    ∷ record {
      name = "rounds-root-of-other-query";
      file = "ask,3,0\nfree,p\nfree,q\nleaf\nall,2,1,2,0,1\nassume,a,0,3\nroot,3,r,0\nroot,2,r,1\n" ∷ [];
      printed = "fact,6,triggers,{p q} free={p q}\nsum,0,1,1\n" ∷ [];
    }
    ∷ record {
      name = "rounds-term-shared-by-roots";
      file = "ask,0,0\nfree,p\nop,other,0,0\nop,other,1,1\nop,other,2,2\nall,3,1,1,3\nassume,a,0,4\nroot,0,r,3\n"
          ∷ "root,0,r,4\n"
          ∷ [];
      printed = "fact,7,triggers,{p} free={p}\nkept,7,a\nsum,1,1,2\n" ∷ [];
    }
    ∷ record {
      name = "rounds-two-halves";
      file = "ask,0,0\nfree,p\nfree,q\nfree,s\nfree,t\nall,0,2,2,0,2,2,1,3\nassume,a,0,4\nop,other,0,1\nroot,0,r,5\n" ∷ [];
      printed = "fact,7,triggers,{p s},{q t} free={p q s t}\nsum,0,2,1\n" ∷ [];
    }
    ∷ record {
      name = "rounds-two-roots-complete";
      file = "ask,3,0\nfree,p\nfree,q\nleaf\nall,2,1,2,0,1\nassume,a,0,3\nroot,3,r,0\nroot,2,r,2\nroot,3,r,1\n" ∷ [];
      printed = "fact,6,triggers,{p q} free={p q}\nkept,6,a\nsum,1,2,2\n" ∷ [];
    }
    ∷ record {
      name = "rounds-visit-without-firing";
      file = "ask,0,0\nfree,p\nfree,q\nfree,s\nall,0,2,2,0,1,2,0,2\nassume,a,0,3\nall,0,1,2,0,1\nassume,b,1,4\n"
          ∷ "root,0,r,0\n"
          ∷ [];
      printed = "fact,6,triggers,{p q},{p s} free={p q s}\nfact,8,triggers,{p q} free={p q}\nsum,0,3,1\n" ∷ [];
    }
    ∷ record {
      name = "rule-0-body-all";
      file = "ask,0,0\nfree,p\nall,0,1,1,0\nall,1,0\nassume,a,0,2\n" ∷ [];
      printed = "fact,5,ambient,0 free={p}\nkept,5,a\nsum,1,0,1\n" ∷ [];
    }
    ∷ record {
      name = "rule-0-excluded-in-group";
      file = "ask,0,0\nfree,p\ncall,HasType,0,0\ncall,Valid\nall,0,3,1,1,1,2,2,0,2\nassume,a,0,3\n" ∷ [];
      printed = "fact,6,triggers,{p},{},{p} free={p}\nsum,0,0,1\n" ∷ [];
    }
    ∷ record {
      name = "rule-0-no-group-assumption";
      file = "ask,0,0\nfree,p\nfree,q\nall,0,0\nassume,assumption_1,0,2\n" ∷ [];
      printed = "fact,5,triggers,{p} free={p}\nsum,0,0,1\n" ∷ [];
    }
    ∷ record {
      name = "rule-0-some";
      file = "ask,0,0\nfree,p\nsome,0,1,1,0\nassume,a,0,1\nassume,assumption_a,0,1\n" ∷ [];
      printed = "fact,4,ambient,0 free={p}\nfact,5,triggers,{p} free={p}\nkept,4,a\nsum,1,0,1\n" ∷ [];
    }
    ∷ record {
      name = "rule-0-two-groups";
      file = "ask,0,0\nfree,p\nfree,q\nall,0,2,1,0,2,0,1\nassume,x,0,2\n" ∷ [];
      printed = "fact,5,triggers,{p},{p q} free={p q}\nsum,0,0,1\n" ∷ [];
    }
    ∷ record {
      name = "rule-0-under-names";
      file = "ask,0,0\nfree,p\nfree,q\nall,1,1,1,0\nassume,assumption_1,0,2\nassume,equation_1,0,2\n"
          ∷ "assume,l_quant_interp_1,0,2\nlabel,2\nlabel,3\nassume,a,0,4\n"
          ∷ [];
      printed = "fact,5,triggers,{p} free={p q}\nfact,6,triggers,{p} free={p q}\nfact,7,triggers,{p} free={p q}\n"
          ∷ "fact,10,triggers,{p} free={p q}\nsum,0,0,1\n"
          ∷ [];
    }
    ∷ record {
      name = "rule-1";
      file = "ask,0,0\nfree,p\nfree,q\nop,iff,0,1\nassume,l_quant_interp,0,2\n" ∷ [];
      printed = "fact,5,triggers,{p} free={p q}\nsum,0,0,1\n" ∷ [];
    }
    ∷ record {
      name = "rule-1-before-2";
      file = "ask,0,0\nfree,p\nfree,q\nop,iff,0,1\nassume,l_quant_interp,0,2\nassume,l_quant_inter,0,2\n"
          ∷ "assume,assumption_l,0,2\n"
          ∷ [];
      printed = "fact,5,triggers,{p} free={p q}\nfact,6,triggers,{p},{q} free={p q}\nfact,7,triggers,{p q} free={p q}\n"
          ∷ "sum,0,0,1\n"
          ∷ [];
    }
    ∷ record {
      name = "rule-1-eq";
      file = "ask,0,0\nfree,p\nfree,q\nop,eq,0,1\nassume,l_quant_interp_1,0,2\n" ∷ [];
      printed = "fact,5,triggers,{p},{q} free={p q}\nsum,0,0,1\n" ∷ [];
    }
    ∷ record {
      name = "rule-1-labelled";
      file = "ask,0,0\nfree,p\nfree,q\nop,iff,0,1\nlabel,2\nassume,l_quant_interp_a,0,3\n" ∷ [];
      printed = "fact,6,ambient,0 free={p q}\nkept,6,l_quant_interp_a\nsum,1,0,1\n" ∷ [];
    }
    ∷ record {
      name = "rule-1-three";
      file = "ask,0,0\nfree,p\nfree,q\nop,iff,0,1,1\nassume,l_quant_interp_1,0,2\n" ∷ [];
      printed = "fact,5,ambient,0 free={p q}\nkept,5,l_quant_interp_1\nsum,1,0,1\n" ∷ [];
    }
    ∷ []

-- a wrong one is named in the error
pass_24 : AllPrint files_24
unfolding prints files_24
pass_24 = (refl, (refl, (refl, (refl, (refl, (refl, (refl, (refl, (refl, (refl, (refl, (refl, (refl, (refl, (refl, (refl, (refl, (refl, tt))))))))))))))))))

-- rule-10 to rule-3-squash-label-all
files_25 : List Small
files_25 =
    record {
      name = "rule-10";
      file = "ask,0,0\nfree,p\nfree,q\nop,eq,1,0\nassume,x,0,2\n" ∷ [];
      printed = "fact,5,triggers,{q},{p} free={p q}\nsum,0,0,1\n" ∷ [];
    }
    ∷ record {
      name = "rule-11";
      file = "ask,0,0\nfree,p\nfree,q\nop,true,0\nassume,x,0,2\n" ∷ [];
      printed = "fact,5,drop free={p}\nsum,0,0,1\n" ∷ [];
    }
    ∷ record {
      name = "rule-11-words";
      file = "ask,0,0\nfree,p\nop,true\nassume,a,0,1\nop,true,0,0,0\nassume,b,0,2\nop,and\nassume,c,0,3\nop,other\n"
          ∷ "assume,d,0,4\nop,iff\nassume,e,0,5\nop,eq\nassume,f,0,6\nlabel,1\nassume,g,0,7\n"
          ∷ [];
      printed = "fact,4,drop free={}\nfact,6,drop free={p}\nfact,8,triggers free={}\nfact,10,ambient,0 free={}\n"
          ∷ "fact,12,ambient,0 free={}\nfact,14,ambient,0 free={}\nfact,16,ambient,0 free={}\nkept,16,g\nkept,14,f\n"
          ∷ "kept,12,e\nkept,10,d\nsum,4,0,1\n"
          ∷ [];
    }
    ∷ record {
      name = "rule-12-free";
      file = "ask,0,0\nfree,p\nfree,q\nfree,HasType\nassume,x,0,2\n" ∷ [];
      printed = "fact,5,ambient,0 free={}\nkept,5,x\nsum,1,0,1\n" ∷ [];
    }
    ∷ record {
      name = "rule-12-kinds";
      file = "ask,0,0\nfree,p\nassume,a,0,0\nleaf\nassume,b,0,1\ncall,g,0\nassume,c,0,2\nop,other,0\nassume,d,0,3\n"
          ∷ "some,0,1,1,0\nassume,e,0,4\nlet,0,1\nassume,f,0,5\nlabel,3\nassume,g,0,6\nall,0,0\nassume,h,0,7\n"
          ∷ [];
      printed = "fact,3,ambient,0 free={p}\nfact,5,ambient,0 free={}\nfact,7,ambient,0 free={g p}\n"
          ∷ "fact,9,ambient,0 free={p}\nfact,11,ambient,0 free={p}\nfact,13,ambient,0 free={p}\n"
          ∷ "fact,15,ambient,0 free={p}\nfact,17,ambient,0 free={p}\nkept,17,h\nkept,15,g\nkept,13,f\nkept,11,e\n"
          ∷ "kept,9,d\nkept,7,c\nkept,5,b\nkept,3,a\nsum,8,0,1\n"
          ∷ [];
    }
    ∷ record {
      name = "rule-2-before-3";
      file = "ask,0,0\nfree,x\ncall,Prims.squash,0\ncall,HasType,0,1\nassume,assumption_,0,2\nassume,assumption,0,2\n" ∷ [];
      printed = "fact,5,triggers,{Prims.squash x} free={Prims.squash x}\nfact,6,ambient,1 free={Prims.squash x}\n"
          ∷ "kept,5,assumption_\nkept,6,assumption\nsum,2,2,2\n"
          ∷ [];
    }
    ∷ record {
      name = "rule-3-arities";
      file = "ask,0,0\nfree,x\nfree,y\nall,0,1,1,1\ncall,Prims.squash,2\ncall,HasType,0,3\nassume,a1,0,4\n"
          ∷ "call,Prims.squash,0,2\ncall,HasType,0,5\nassume,a2,0,6\ncall,Prims.squash,0,0,2\ncall,HasType,0,7\n"
          ∷ "assume,a3,0,8\ncall,Prims.squash\ncall,HasType,0,9\nassume,a0,0,10\n"
          ∷ [];
      printed = "fact,7,ambient,1 free={Prims.squash x y}\nfact,10,triggers,{y} free={Prims.squash x y}\n"
          ∷ "fact,13,ambient,1 free={Prims.squash x y}\nfact,16,ambient,1 free={Prims.squash x}\nkept,10,a2\n"
          ∷ "kept,16,a0\nkept,13,a3\nkept,7,a1\nsum,4,1,2\n"
          ∷ [];
    }
    ∷ record {
      name = "rule-3-free-squash";
      file = "ask,0,0\nfree,p\nfree,q\nfree,Prims.squash\ncall,HasType,0,2\nassume,x,0,3\n" ∷ [];
      printed = "fact,6,triggers,{p} free={Prims.squash p}\nsum,0,0,1\n" ∷ [];
    }
    ∷ record {
      name = "rule-3-hastype-3";
      file = "ask,0,0\nfree,p\nfree,q\ncall,Tm_refine_1,0\ncall,HasType,0,2,2\nassume,x,0,3\n" ∷ [];
      printed = "fact,6,ambient,0 free={Tm_refine_1 p}\nkept,6,x\nsum,1,0,1\n" ∷ [];
    }
    ∷ record {
      name = "rule-3-refinements";
      file = "ask,0,0\nfree,x\nfree,Tm_refine_\ncall,HasType,0,1\nassume,a,0,2\ncall,Tm_refine_0,0,0,0\n"
          ∷ "call,HasType,0,3\nassume,b,0,4\nfree,Tm_refine\ncall,HasType,0,5\nassume,c,0,6\nlabel,1\n"
          ∷ "call,HasType,0,7\nassume,d,0,8\n"
          ∷ [];
      printed = "fact,5,ambient,1 free={Tm_refine_ x}\nfact,8,ambient,1 free={Tm_refine_0 x}\n"
          ∷ "fact,11,triggers,{x} free={Tm_refine x}\nfact,14,triggers,{x} free={Tm_refine_ x}\nkept,11,c\n"
          ∷ "kept,14,d\nkept,8,b\nkept,5,a\nsum,4,2,2\n"
          ∷ [];
    }
    ∷ record {
      name = "rule-3-squash-0";
      file = "ask,0,0\nfree,p\nfree,q\ncall,Prims.squash\ncall,HasType,0,2\nassume,x,0,3\n" ∷ [];
      printed = "fact,6,ambient,1 free={Prims.squash p}\nkept,6,x\nsum,1,0,1\n" ∷ [];
    }
    ∷ record {
      name = "rule-3-squash-all-empty";
      file = "ask,0,0\nfree,p\nfree,q\nall,0,1,0\ncall,Prims.squash,0,2\ncall,HasType,0,3\nassume,x,0,4\n" ∷ [];
      printed = "fact,7,ambient,1 free={Prims.squash p}\nkept,7,x\nsum,1,0,1\n" ∷ [];
    }
    ∷ record {
      name = "rule-3-squash-label-all";
      file = "ask,0,0\nfree,p\nfree,q\nall,0,1,1,1\nlabel,2\ncall,Prims.squash,0,3\ncall,HasType,0,4\nassume,x,0,5\n" ∷ [];
      printed = "fact,8,triggers,{q} free={Prims.squash p q}\nsum,0,0,1\n" ∷ [];
    }
    ∷ []

-- a wrong one is named in the error
pass_25 : AllPrint files_25
unfolding prints files_25
pass_25 = (refl, (refl, (refl, (refl, (refl, (refl, (refl, (refl, (refl, (refl, (refl, (refl, (refl, tt)))))))))))))

-- rule-3-two-empty-groups to rule-4-tokens
files_26 : List Small
files_26 =
    record {
      name = "rule-3-two-empty-groups";
      file = "ask,0,0\nfree,x\nall,0,2,0,0\ncall,Prims.squash,0,1\ncall,HasType,0,2\nassume,a,0,3\nroot,0,r,0\n" ∷ [];
      printed = "fact,6,triggers,{},{} free={Prims.squash x}\nsum,0,0,1\n" ∷ [];
    }
    ∷ record {
      name = "rule-3-type-is-all";
      file = "ask,0,0\nfree,x\nall,0,1,1,0\ncall,HasType,0,1\nassume,a,0,2\n" ∷ [];
      printed = "fact,5,triggers,{x} free={x}\nsum,0,0,1\n" ∷ [];
    }
    ∷ record {
      name = "rule-4-markers";
      file = "ask,0,0\nfree,__uu__PartialApp\ncall,__uu__PartialApp\nfree,x\ncall,__uu__PartialApp,2\ncall,f@tok\n"
          ∷ "call,ApplyTT,0,4\ncall,Valid,5\nassume,a,0,6\ncall,ApplyTT,1,4\ncall,Valid,7\nassume,b,0,8\n"
          ∷ "call,ApplyTT,3,4\ncall,Valid,9\nassume,c,0,10\ncall,ApplyTT,4,0\ncall,Valid,11\nassume,d,0,12\n"
          ∷ "call,ApplyTF,0,4\ncall,Valid,13\nassume,e,0,14\ncall,ApplyTT,0,4,4\ncall,Valid,15\nassume,f,0,16\n"
          ∷ "call,Valid,5,5\nassume,g,0,17\nlabel,0\ncall,ApplyTT,18,4\ncall,Valid,19\nassume,h,0,20\n"
          ∷ [];
      printed = "fact,9,triggers,{f@tok},{f} free={__uu__PartialApp f@tok}\n"
          ∷ "fact,12,triggers,{f@tok},{f} free={__uu__PartialApp f@tok}\n"
          ∷ "fact,15,triggers,{f@tok},{f} free={__uu__PartialApp f@tok x}\n"
          ∷ "fact,18,triggers,{__uu__PartialApp f@tok} free={__uu__PartialApp f@tok}\n"
          ∷ "fact,21,triggers,{__uu__PartialApp f@tok} free={__uu__PartialApp f@tok}\n"
          ∷ "fact,24,triggers,{__uu__PartialApp f@tok} free={__uu__PartialApp f@tok}\n"
          ∷ "fact,26,ambient,0 free={__uu__PartialApp f@tok}\n"
          ∷ "fact,30,triggers,{__uu__PartialApp f@tok} free={__uu__PartialApp f@tok}\nkept,26,g\nsum,1,0,1\n"
          ∷ [];
    }
    ∷ record {
      name = "rule-4-tok-tok";
      file = "ask,0,0\nfree,p\nfree,q\ncall,__uu__PartialApp\nfree,a@tok@tok\ncall,ApplyTT,2,3\ncall,Valid,4\n"
          ∷ "assume,x,0,5\n"
          ∷ [];
      printed = "fact,8,triggers,{a@tok@tok},{a@tok} free={__uu__PartialApp a@tok@tok}\nsum,0,0,1\n" ∷ [];
    }
    ∷ record {
      name = "rule-4-tokens";
      file = "ask,0,0\nfree,__uu__PartialApp\nfree,x\nfree,f@to\ncall,ApplyTT,0,2\ncall,Valid,3\nassume,a,0,4\nleaf\n"
          ∷ "call,ApplyTT,0,5\ncall,Valid,6\nassume,b,0,7\ncall,g@tok,1\ncall,ApplyTT,0,8\ncall,Valid,9\n"
          ∷ "assume,c,0,10\nfree,@tok\ncall,ApplyTT,0,11\ncall,Valid,12\nassume,d,0,13\nfree,tok@tok\nlabel,14\n"
          ∷ "call,ApplyTT,0,15\ncall,Valid,16\nassume,e,0,17\nfree,__uu__PartialApp@tok\ncall,ApplyTT,0,18\n"
          ∷ "call,Valid,19\nassume,f,0,20\nroot,0,r,0\n"
          ∷ [];
      printed = "fact,7,triggers,{f@to} free={__uu__PartialApp f@to}\nfact,11,triggers free={__uu__PartialApp}\n"
          ∷ "fact,15,triggers free={__uu__PartialApp g@tok x}\n"
          ∷ "fact,19,triggers,{@tok},{} free={@tok __uu__PartialApp}\n"
          ∷ "fact,24,triggers free={__uu__PartialApp tok@tok}\n"
          ∷ "fact,28,triggers,{__uu__PartialApp@tok},{__uu__PartialApp} free={__uu__PartialApp __uu__PartialApp@tok}\n"
          ∷ "kept,28,f\nsum,1,2,3\n"
          ∷ [];
    }
    ∷ []

-- a wrong one is named in the error
pass_26 : AllPrint files_26
unfolding prints files_26
pass_26 = (refl, (refl, (refl, (refl, (refl, tt)))))

-- rule-5-arities to rule-7-parts
files_27 : List Small
files_27 =
    record {
      name = "rule-5-arities";
      file = "ask,0,0\nfree,x\nfree,y\ncall,Valid,0\nassume,a,0,2\ncall,Valid,0,1\nassume,b,0,3\ncall,Valid\n"
          ∷ "assume,c,0,4\ncall,HasType,0\nassume,d,0,5\ncall,HasType,0,1\nassume,e,0,6\ncall,HasType,0,1,1\n"
          ∷ "assume,f,0,7\ncall,IsTotFun,1\nassume,g,0,8\ncall,IsTotFun,1,1\nassume,h,0,9\ncall,is-Tm_arrow,1\n"
          ∷ "assume,i,0,10\ncall,is-Tm_arrow\nassume,j,0,11\ncall,HasTypeZ,0,1\nassume,k,0,12\n"
          ∷ "call,HasTypeFuel,0,0,1\nassume,l,0,13\nfree,Valid\nassume,m,0,14\n"
          ∷ [];
      printed = "fact,5,triggers,{x} free={x}\nfact,7,ambient,0 free={x y}\nfact,9,ambient,0 free={}\n"
          ∷ "fact,11,ambient,0 free={x}\nfact,13,triggers,{x} free={x y}\nfact,15,ambient,0 free={x y}\n"
          ∷ "fact,17,triggers,{y} free={IsTotFun y}\nfact,19,ambient,0 free={IsTotFun y}\n"
          ∷ "fact,21,triggers,{y} free={is-Tm_arrow y}\nfact,23,ambient,0 free={is-Tm_arrow}\n"
          ∷ "fact,25,ambient,0 free={x y}\nfact,27,ambient,0 free={x y}\nfact,29,ambient,0 free={}\nkept,29,m\n"
          ∷ "kept,27,l\nkept,25,k\nkept,23,j\nkept,19,h\nkept,15,f\nkept,11,d\nkept,9,c\nkept,7,b\nsum,9,0,1\n"
          ∷ [];
    }
    ∷ record {
      name = "rule-5-arrow";
      file = "ask,0,0\nfree,p\nfree,q\ncall,is-Tm_arrow,1\nassume,x,0,2\n" ∷ [];
      printed = "fact,5,triggers,{q} free={is-Tm_arrow q}\nsum,0,0,1\n" ∷ [];
    }
    ∷ record {
      name = "rule-5-hastype";
      file = "ask,0,0\nfree,p\nfree,q\ncall,HasType,1,0\nassume,x,0,2\n" ∷ [];
      printed = "fact,5,triggers,{q} free={p q}\nsum,0,0,1\n" ∷ [];
    }
    ∷ record {
      name = "rule-6";
      file = "ask,0,0\nfree,p\nfree,q\ncall,Term_constr_id,1\nop,eq,0,2\nassume,equation_x,0,3\n" ∷ [];
      printed = "fact,6,triggers,{q} free={Term_constr_id p q}\nsum,0,0,1\n" ∷ [];
    }
    ∷ record {
      name = "rule-6-arities";
      file = "ask,0,0\nfree,x\nfree,y\ncall,Term_constr_id\nop,eq,0,2\nassume,a,0,3\ncall,Term_constr_id,1\n"
          ∷ "op,eq,0,4\nassume,b,0,5\ncall,Term_constr_id,1,1\nop,eq,0,6\nassume,c,0,7\nop,eq,4,0\nassume,d,0,8\n"
          ∷ "op,iff,0,4\nassume,e,0,9\nfree,Term_constr_id\nop,eq,0,10\nassume,f,0,11\nop,eq,0,4,4\nassume,g,0,12\n"
          ∷ "op,eq,4,4\nassume,equation_h,0,13\n"
          ∷ [];
      printed = "fact,6,triggers,{x},{Term_constr_id} free={Term_constr_id x}\n"
          ∷ "fact,9,triggers,{y} free={Term_constr_id x y}\n"
          ∷ "fact,12,triggers,{x},{Term_constr_id y} free={Term_constr_id x y}\n"
          ∷ "fact,14,triggers,{Term_constr_id y},{x} free={Term_constr_id x y}\n"
          ∷ "fact,16,triggers,{x},{Term_constr_id y} free={Term_constr_id x y}\n"
          ∷ "fact,19,triggers,{x},{Term_constr_id} free={Term_constr_id x}\n"
          ∷ "fact,21,ambient,0 free={Term_constr_id x y}\nfact,23,triggers,{y} free={Term_constr_id y}\nkept,21,g\n"
          ∷ "sum,1,0,1\n"
          ∷ [];
    }
    ∷ record {
      name = "rule-6-two";
      file = "ask,0,0\nfree,p\nfree,q\ncall,Term_constr_id,1,1\nop,eq,0,2\nassume,x,0,3\n" ∷ [];
      printed = "fact,6,triggers,{p},{Term_constr_id q} free={Term_constr_id p q}\nsum,0,0,1\n" ∷ [];
    }
    ∷ record {
      name = "rule-7";
      file = "ask,0,0\nfree,p\nfree,q\nall,0,1,1,1\nlabel,2\nall,0,2,1,0,0\nop,and,0,3,4,2\nassume,x,0,5\n" ∷ [];
      printed = "fact,8,triggers,{q},{p},{},{q} free={p q}\nsum,0,0,1\n" ∷ [];
    }
    ∷ record {
      name = "rule-7-nested";
      file = "ask,0,0\nfree,p\nfree,q\nall,0,1,1,1\nop,and,2\nop,and,3\nassume,x,0,4\n" ∷ [];
      printed = "fact,7,triggers free={p q}\nsum,0,0,1\n" ∷ [];
    }
    ∷ record {
      name = "rule-7-parts";
      file = "ask,0,0\nfree,p\nfree,q\nall,0,2,1,0,0\nlabel,2\nsome,0,1,1,1\nop,and,2,3,4,0,2\nassume,a,0,5\n"
          ∷ "all,0,1,1,1\nop,and,5,6\nassume,b,0,7\nall,0,0\nop,and,8,8\nassume,c,0,9\nassume,equation_d,0,5\n"
          ∷ "assume,assumption_e,0,5\n"
          ∷ [];
      printed = "fact,8,triggers,{p},{},{p},{},{p},{} free={p q}\nfact,11,triggers,{q} free={p q}\n"
          ∷ "fact,14,triggers free={p}\nfact,15,triggers,{p},{},{p},{},{p},{} free={p q}\n"
          ∷ "fact,16,triggers,{p q} free={p q}\nsum,0,0,1\n"
          ∷ [];
    }
    ∷ []

-- a wrong one is named in the error
pass_27 : AllPrint files_27
unfolding prints files_27
pass_27 = (refl, (refl, (refl, (refl, (refl, (refl, (refl, (refl, (refl, tt)))))))))

-- rule-8-arities to two-asks-two-answers
files_28 : List Small
files_28 =
    record {
      name = "rule-8-arities";
      file = "ask,0,0\nfree,p\nfree,q\nop,eq,0,1\nassume,equation_,0,2\nassume,equation,0,2\nop,eq,0\n"
          ∷ "assume,equation_one,0,3\nop,eq,0,1,1\nassume,equation_three,0,4\nop,iff,0,1\nassume,equation_iff,0,5\n"
          ∷ "op,eq\nassume,equation_none,0,6\n"
          ∷ [];
      printed = "fact,5,triggers,{p} free={p q}\nfact,6,triggers,{p},{q} free={p q}\nfact,8,ambient,0 free={p}\n"
          ∷ "fact,10,ambient,0 free={p q}\nfact,12,triggers,{p},{q} free={p q}\nfact,14,ambient,0 free={}\n"
          ∷ "kept,14,equation_none\nkept,10,equation_three\nkept,8,equation_one\nsum,3,0,1\n"
          ∷ [];
    }
    ∷ record {
      name = "rule-9-half";
      file = "ask,0,0\nfree,p\nfree,q\ncall,Prims.hasEq,0,1\ncall,Valid,2\nop,iff,3,0\nassume,x,0,4\n" ∷ [];
      printed = "fact,7,triggers,{Prims.hasEq p q},{p} free={Prims.hasEq p q}\nsum,0,0,1\n" ∷ [];
    }
    ∷ record {
      name = "rule-9-half-right";
      file = "ask,0,0\nfree,p\nfree,q\ncall,Prims.hasEq,0,1\ncall,Valid,2\nop,iff,0,3\nassume,x,0,4\n" ∷ [];
      printed = "fact,7,triggers,{p},{Prims.hasEq p q} free={Prims.hasEq p q}\nsum,0,0,1\n" ∷ [];
    }
    ∷ record {
      name = "rule-9-has-eq";
      file = "ask,0,0\nfree,u\nfree,s\nfree,t\ncall,Prims.hasEq,0,1\ncall,Valid,3\ncall,Prims.hasEq,0,2\n"
          ∷ "call,Valid,5\nop,iff,4,6\nassume,a,0,7\nop,iff,6,4\nassume,b,0,8\nop,iff,4,0\nassume,c,0,9\nop,iff,3,5\n"
          ∷ "assume,d,0,10\ncall,Prims.hasEq,1\ncall,Valid,11\nop,iff,4,12\nassume,e,0,13\ncall,Prims.hasEq,0,1,2\n"
          ∷ "call,Valid,14\nop,iff,15,4\nassume,f,0,16\ncall,Valid,3,3\nop,iff,4,17\nassume,g,0,18\nop,iff,4,4\n"
          ∷ "assume,l_quant_interp,0,19\nop,eq,4,6\nassume,h,0,20\n"
          ∷ [];
      printed = "fact,10,triggers,{s} free={Prims.hasEq s t u}\nfact,12,triggers,{t} free={Prims.hasEq s t u}\n"
          ∷ "fact,14,triggers,{Prims.hasEq s u},{u} free={Prims.hasEq s u}\n"
          ∷ "fact,16,triggers,{Prims.hasEq s u},{Prims.hasEq t u} free={Prims.hasEq s t u}\n"
          ∷ "fact,20,triggers,{Prims.hasEq s u},{Prims.hasEq s} free={Prims.hasEq s u}\n"
          ∷ "fact,24,triggers,{Prims.hasEq s t u},{Prims.hasEq s u} free={Prims.hasEq s t u}\n"
          ∷ "fact,27,triggers,{Prims.hasEq s u},{Prims.hasEq s u} free={Prims.hasEq s u}\n"
          ∷ "fact,29,triggers,{Prims.hasEq s u} free={Prims.hasEq s u}\n"
          ∷ "fact,31,triggers,{Prims.hasEq s u},{Prims.hasEq t u} free={Prims.hasEq s t u}\nsum,0,0,1\n"
          ∷ [];
    }
    ∷ record {
      name = "second-ask-lacks-options-is-1";
      file = "ask,0,0\nask,1\n" ∷ [];
      printed = "refused,1,2\n" ∷ [];
    }
    ∷ record {
      name = "second-ask-q-256-is-3";
      file = "ask,0,0\nask,256,0\n" ∷ [];
      printed = "refused,3,2\n" ∷ [];
    }
    ∷ record {
      name = "starting-macro-has-no-body-to-follow";
      file = "ask,0,12\nfree,is-BoxInt\nroot,0,r,0\nfun,BoxInt\n" ∷ [];
      printed = "sum,0,0,1\n" ∷ [];
    }
    ∷ record {
      name = "stretch-that-triggers-only-a-reached-fact-has-two-rounds";
      file = "ask,0,0\nalso,1\nfree,__uu__PartialApp\nfree,f@tok\ncall,ApplyTT,0,1\ncall,Valid,2\nassume,t,0,3\n"
          ∷ "free,f\nroot,0,r,1\nroot,1,r,4\n"
          ∷ [];
      printed = "fact,7,triggers,{f@tok},{f} free={__uu__PartialApp f@tok}\nkept,7,t\nsum,1,1,2\nkept,7,t\nsum,1,1,2\n" ∷ [];
    }
    ∷ record {
      name = "stretch-that-triggers-only-pretyping-has-two-rounds";
      file = "ask,0,0\nalso,1\nfree,p\nfree,q\nop,eq,1,1\nassume,a,1,2\nroot,0,r,0\nroot,1,r,1\n" ∷ [];
      printed = "fact,6,triggers,{q},{q} free={q}\nsum,0,0,1\nsum,0,2,2\n" ∷ [];
    }
    ∷ record {
      name = "suppliers-may-change-the-list-may-not-1";
      file = "ask,0,0\nfree,p\nop,eq,0,0\nroot,0,x,0\nroot,0,y,0\nassume,a,0,1\n" ∷ [];
      printed = "fact,6,triggers,{p},{p} free={p}\nkept,6,a\nsum,1,2,2\n" ∷ [];
    }
    ∷ record {
      name = "suppliers-may-change-the-list-may-not-2";
      file = "ask,0,0\nfree,p\nop,eq,0,0\nroot,0,y,0\nroot,0,x,0\nassume,a,0,1\n" ∷ [];
      printed = "fact,6,triggers,{p},{p} free={p}\nkept,6,a\nsum,1,2,2\n" ∷ [];
    }
    ∷ record {
      name = "t-after-group-is-4";
      file = "ask2,0,0,1\nfree,p\nop,eq,0,0\nassume,a,0,15,2\n" ∷ [];
      printed = "refused,4,4\n" ∷ [];
    }
    ∷ record {
      name = "t-before-a-taken-name-in-the-new-form";
      file = "ask2,0,0,1\nfree,p\nop,eq,0,0\nfun,a\nassume,a,0,15,2\n" ∷ [];
      printed = "refused,4,5\n" ∷ [];
    }
    ∷ record {
      name = "token-of-a-fact-not-admitted-is-not-filed";
      file = "ask2,0,0,1\nask2,0,0,2\nfree,__uu__PartialApp\nfree,f@tok\ncall,ApplyTT,0,1\ncall,Valid,2\n"
          ∷ "assume,partial,0,1,3\nfree,f\nroot,0,r,4\n"
          ∷ [];
      printed = "fact,7,triggers,{f@tok},{f} free={__uu__PartialApp f@tok}\nsum,0,0,1\nkept,7,partial\nsum,1,2,3\n" ∷ [];
    }
    ∷ record {
      name = "two-asks-two-answers";
      file = "ask,0,0\nask,1,0\nfree,p\nfree,q\nop,eq,0,0\nassume,a,0,2\nop,eq,1,1\nassume,b,0,3\nroot,0,r,0\n"
          ∷ "root,1,r,1\n"
          ∷ [];
      printed = "fact,6,triggers,{p},{p} free={p}\nfact,8,triggers,{q},{q} free={q}\nkept,6,a\nsum,1,2,2\nkept,8,b\n"
          ∷ "sum,1,2,2\n"
          ∷ [];
    }
    ∷ []

-- a wrong one is named in the error
pass_28 : AllPrint files_28
unfolding prints files_28
pass_28 = (refl, (refl, (refl, (refl, (refl, (refl, (refl, (refl, (refl, (refl, (refl, (refl, (refl, (refl, (refl, tt)))))))))))))))

-- without-hide-needs-both-names
files_29 : List Small
files_29 =
    record {
      name = "without-hide-needs-both-names";
      file = "ask,0,0\nfree,p\ncall,w,0\nfree,q\nall,2,1,1,1\nassume,a,0,3\nroot,0,r,0\n" ∷ [];
      printed = "fact,6,triggers,{p w} free={p q w}\nsum,0,1,1\n" ∷ [];
    }
    ∷ []

-- a wrong one is named in the error
pass_29 : AllPrint files_29
unfolding prints files_29
pass_29 = (refl, tt)
