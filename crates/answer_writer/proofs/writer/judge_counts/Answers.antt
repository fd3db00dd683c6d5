use Rattle.std.proofs.Common.{◌≡◌, sym, ◌∙◌, ◌&&◌, true, false, eqb, eq-eqb, ne_eqb, arith}
use Rattle.definitions.specs.AnswerRecord.{known_class, start_fits, stamp_count, pick_count, writer_judged}
use Rattle.records.proofs.Tests.{tests}
use Rattle.answer_writer.proofs.writer.judge_counts.Goals as goal
use Rattle.answer_writer.proofs.writer.judge_counts.Goals.{then-n-gt-HIGHEST_N-via-then-n-gt-HIGHEST_N, then-n-gt-HIGHEST_N-via-else-n-gt-HIGHEST_N+then-m-gt-HIGHEST_M, then-stamps-stamp_count-via-then-stamps-stamp_count, then-stamps-stamp_count-via-else-stamps-stamp_count+then-picks-pick_count}

pub returns-then-n-gt-HIGHEST_N : goal.returns-then-n-gt-HIGHEST_N
unfolding writer_judged
returns-then-n-gt-HIGHEST_N c =
    elim c.then-n-gt-HIGHEST_N.branch [ then-n-gt-HIGHEST_N-via-then-n-gt-HIGHEST_N w ↦ search tests | then-n-gt-HIGHEST_N-via-else-n-gt-HIGHEST_N+then-m-gt-HIGHEST_M w ↦ search tests ]

pub returns-then-room-lt-ANSWER_MOST : goal.returns-then-room-lt-ANSWER_MOST
unfolding writer_judged
returns-then-room-lt-ANSWER_MOST c = search tests

pub returns-then-not-start_fits : goal.returns-then-not-start_fits
unfolding writer_judged
returns-then-not-start_fits c =
    let h = c.args.head in
    let known : (known_class h.class && start_fits h.class h.start c.args.n) ≡ false = sym c.start_fits.ensures ∙ c.if-not-start_fits.true in
    search (tests, known)

pub returns-then-stamps-stamp_count : goal.returns-then-stamps-stamp_count
unfolding writer_judged
returns-then-stamps-stamp_count c =
    let h = c.args.head in
    let known : (known_class h.class && start_fits h.class h.start c.args.n) ≡ true = sym c.start_fits.ensures ∙ c.if-not-start_fits.false in
    elim c.then-stamps-stamp_count.branch [
      | then-stamps-stamp_count-via-then-stamps-stamp_count w ↦
          (let stamps : eqb c.args.stamps (stamp_count h.class c.args.n) ≡ false = ne_eqb _ _ (λ s. omega arith) in search (tests, known, stamps))
      | then-stamps-stamp_count-via-else-stamps-stamp_count+then-picks-pick_count w ↦
          (let stamps : eqb c.args.stamps (stamp_count h.class c.args.n) ≡ true = eq-eqb _ _ (omega arith) in
          let picks : eqb c.args.picks (pick_count h.class c.args.n c.args.m) ≡ false = ne_eqb _ _ (λ s. omega arith) in
          search (tests, known, stamps, picks))
    ]

pub returns : goal.returns
unfolding writer_judged
returns c =
    let h = c.args.head in
    let known : (known_class h.class && start_fits h.class h.start c.args.n) ≡ true = sym c.start_fits.ensures ∙ c.if-not-start_fits.false in
    let stamps : eqb c.args.stamps (stamp_count h.class c.args.n) ≡ true = eq-eqb _ _ (omega arith) in
    let picks : eqb c.args.picks (pick_count h.class c.args.n c.args.m) ≡ true = eq-eqb _ _ (omega arith) in
    search (tests, known, stamps, picks)
