-- `filing::read_record` meets its contract: each kind by its own.
use Rattle.fields.specs.Wording.{record_line_kind}
use Rattle.filing.proofs.Recording.{record_line}
use Rattle.filing.proofs.read_record.Goals as goal

pub read_assume-requires : goal.read_assume-requires
read_assume-requires c =
    c.requires

pub read_fun-requires : goal.read_fun-requires
read_fun-requires c =
    c.requires

pub read_def-requires : goal.read_def-requires
read_def-requires c =
    c.requires

pub read_retain-requires : goal.read_retain-requires
read_retain-requires c =
    c.requires

pub read_root-requires : goal.read_root-requires
read_root-requires c =
    c.requires

pub returns-in-Assume : goal.returns-in-Assume
unfolding record_line_kind
returns-in-Assume c =
    record_line _ _ _ c.in-Assume.is c.read_assume.ensures

pub returns-in-Fun : goal.returns-in-Fun
unfolding record_line_kind
returns-in-Fun c =
    record_line _ _ _ c.in-Fun.is c.read_fun.ensures

pub returns-in-Def : goal.returns-in-Def
unfolding record_line_kind
returns-in-Def c =
    record_line _ _ _ c.in-Def.is c.read_def.ensures

pub returns-in-Retain : goal.returns-in-Retain
unfolding record_line_kind
returns-in-Retain c =
    record_line _ _ _ c.in-Retain.is c.read_retain.ensures

pub returns-in-Root : goal.returns-in-Root
unfolding record_line_kind
returns-in-Root c =
    record_line _ _ _ c.in-Root.is c.read_root.ensures
