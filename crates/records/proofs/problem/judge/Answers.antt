use Rattle.std.proofs.Common.{◌≡◌, true, false, sym}
use Rattle.std.proofs.lemmas.Result.{err_from_is_err_and}
use Rattle.definitions.specs.Bytes.{first}
use Rattle.definitions.specs.Limits.{refused_short, refused_length, refused_kind}
use Rattle.definitions.specs.ProblemRecord.{known_kind, counts_refused, header_judged}
use Rattle.records.specs.declared.refusal.Refusal.TheVariants.{Short, Length, Kind}
use Rattle.records.specs.Refusals.{number_of}
use Rattle.records.specs.ProblemHeader.{kinds_in, layout_in, layout_by}
use Rattle.records.proofs.Tests.{tests}
use Rattle.records.proofs.Refusing.{outcome_ok, outcome_err}
use Rattle.records.proofs.problem.judge.Goals as goal

pub returns-then-size-lt-PROBLEM_HEADER : goal.returns-then-size-lt-PROBLEM_HEADER
unfolding header_judged
returns-then-size-lt-PROBLEM_HEADER c = let f = c.args.fields in
    let e : refused_short ≡ header_judged (kinds_in c.args.kinds) c.args.size f.length f.kind f.n f.m f.count = search tests in
    outcome_err layout_in Short (layout_by f.kind f.n f.m f.count) e

pub returns-then-whole-size : goal.returns-then-whole-size
unfolding header_judged
returns-then-whole-size c = let f = c.args.fields in
    let e : refused_length ≡ header_judged (kinds_in c.args.kinds) c.args.size f.length f.kind f.n f.m f.count = search tests in
    outcome_err layout_in Length (layout_by f.kind f.n f.m f.count) e

pub returns-in_default : goal.returns-in_default
unfolding header_judged
returns-in_default c = let f = c.args.fields in
    let unknown : known_kind (kinds_in c.args.kinds) f.kind ≡ false = c.in_default.ensures in
    let e : refused_kind ≡ header_judged (kinds_in c.args.kinds) c.args.size f.length f.kind f.n f.m f.count = search (tests, unknown) in
    outcome_err layout_in Kind (layout_by f.kind f.n f.m f.count) e

pub returns-in_err-judge_counts : goal.returns-in_err-judge_counts
unfolding header_judged
returns-in_err-judge_counts c = let f = c.args.fields in
    let s = c.in-Some.ensures in
    let p = err_from_is_err_and c.from_residual.result c.from_residual.ensures.1 in
    let r = c.in_err-judge_counts.field-0.0 in
    let j : number_of r ≡ first (counts_refused c.args.size f.kind f.n f.m f.count) = rw s.0 c.in_err-judge_counts.ensures in
    let known : known_kind (kinds_in c.args.kinds) f.kind ≡ true = s.1 in
    let e : number_of r ≡ header_judged (kinds_in c.args.kinds) c.args.size f.length f.kind f.n f.m f.count = search (tests, known, j) in
    rw (p.1, p.2) (outcome_err layout_in r (layout_by f.kind f.n f.m f.count) e)

pub returns : goal.returns
unfolding header_judged
returns c = let f = c.args.fields in
    let s = c.in-Some.ensures in
    let j : first (counts_refused c.args.size f.kind f.n f.m f.count) ≡ 0 = rw s.0 (sym c.in_ok-judge_counts.ensures) in
    let known : known_kind (kinds_in c.args.kinds) f.kind ≡ true = s.1 in
    let e : header_judged (kinds_in c.args.kinds) c.args.size f.length f.kind f.n f.m f.count ≡ 0 = search (tests, known, j) in
    outcome_ok layout_in c.layout_of.result (layout_by f.kind f.n f.m f.count) e (rw s.0 c.layout_of.ensures)
