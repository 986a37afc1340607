-- `splicing::measure` meets its contract: one part after another.
use mathlib.Core.Path.{◌≡◌, ◌∙◌}
use Rattle.saving.specs.Documents.{line_bytes}
use borrow.Author.Rules.{rules}
use Rattle.splicing.proofs.Runs.{front-lacks, line_lacks, back-ends}
use Rattle.splicing.proofs.measure.Goals as goal

pub returns-in_default : goal.returns-in_default
returns-in_default c =
    let a = c.args in front-lacks a.front.now (line_bytes a.line) a.back.now a.size a.at c.room-first.ensures c.in_default.is

pub returns-in_default-second : goal.returns-in_default-second
returns-in_default-second c =
    let a = c.args in
    line_lacks a.front.now (line_bytes a.line) a.back.now a.size a.at c.room-first.ensures c.in-Some.is c.measure-second.ensures c.in_default-second.is

pub returns : goal.returns
returns c =
    let a = c.args in
    c.room.ensures
    ∙ back-ends a.front.now (line_bytes a.line) a.back.now a.size a.at c.room-first.ensures c.in-Some.is c.measure-second.ensures c.in-Some-second.is
