use Rattle.std.proofs.Common.{◌≡◌, ℕ, suc, ◌+◌, ◌-◌, ◌*◌, ap, sym, subst, ◌∙◌, refl, arith}
use lib.ListN.{get_or}
use Rattle.definitions.specs.Limits.{lead_limit}
use Rattle.definitions.specs.ProblemRecord.{left_place}
use Rattle.records.specs.Decoded.{Near}
use Rattle.problem_records.specs.Tables.{lead_at, right_table}
use Rattle.problem_records.proofs.LeadTables.{row_inside, laid_fit, left_near, right_near_at, right_lead_at}
use Rattle.closed_walks.proofs.ArcTables.{fill_idle, fill_blank, fill_arcs}
use Rattle.closed_walks.specs.Arcs.{lift}
use Rattle.closed_walks.proofs.arcs.fill_variable.Goals as goal

-- What holds from where the right leads start holds from a place that is it.
there : (P : ℕ → Type 0) {at start : ℕ} → at ≡ start → P start → P at
there P e p = subst P (sym e) p

pub returns-then-pick-eq0 : goal.returns-then-pick-eq0
returns-then-pick-eq0 c = fill_idle _ _ _ _ _ c.if-pick-eq0.true c.fill_none.ensures

pub returns-then-a-eq0 : goal.returns-then-a-eq0
returns-then-a-eq0 c = let e : c.args.pick ≡ suc (c.args.pick - 1) = omega arith in
    fill_blank _ _ _ _ _ e c.left-a.ensures c.if-a-eq0.true c.fill_none-then-a-eq0.ensures

pub lift_of-up-requires : goal.lift_of-up-requires
lift_of-up-requires c = let laid = c.args.rows.now.laid in
    (rw c.left-a.ensures (left_near _ laid.bytes (laid_fit laid) _), omega (arith, c.if-a-eq0.false), c.raise_of.ensures.1, c.raise_of.ensures.2)

pub fill_lifted-requires : goal.fill_lifted-requires
fill_lifted-requires c = let laid = c.args.rows.now.laid in
    record {
      length_is = omega arith;
      room = omega arith;
      inside = omega (arith, row_inside laid (c.args.pick - 1) (omega arith));
      up_most = omega arith;
      leads = λ l h.
          there (λ k. Near lead_limit (lead_at c.args.rows.now.bytes.now (k + 4 * l))) {start = left_place c.args.rows.now.n (c.args.pick - 1) 0 + 4 * (c.args.rows.now.n + 1)} (omega arith)
          (right_near_at laid (c.args.pick - 1) _ l (omega arith) refl (omega arith));
    }

pub returns : goal.returns
returns c = let e : c.args.pick ≡ suc (c.args.pick - 1) = omega arith in
    fill_arcs _ _ _ _ _ e c.left-a.ensures c.if-a-eq0.false (c.lift_of-up.ensures.0 ∙ ap (lift _) c.raise_of.ensures.0)
    (λ l h.
    there (λ k. get_or (right_table c.args.rows.now.bytes.now) ((c.args.pick - 1) * 32 + l) 0 ≡ lead_at c.args.rows.now.bytes.now (k + 4 * l)) {start = left_place c.args.rows.now.n (c.args.pick - 1) 0 + 4 * (c.args.rows.now.n + 1)} (omega arith)
    (right_lead_at c.args.rows.now.laid (c.args.pick - 1) _ l (omega arith) refl (omega arith))) c.fill_lifted.ensures
