-- What can be handed to the writer: offset numbers of spans and stamps, and the answers that it takes.
use Prim.Native.Nat.{ℕ, suc, ◌+◌, ◌-◌, ◌<◌}
use mathlib.Core.Path.{◌≡◌, refl, ap, ap₂, sym, ◌∙◌}
use mathlib.Core.Bool.{true}
use mathlib.Core.List.{List, [], ◌∷◌, map}
use mathlib.Core.Logic.{⊎_elim}
use native.Mathlib.Omega.{arith}
use native.Mathlib.Nat.{eq-zero-or-pos}
use lib.ListN.{length, get_or, length-map, get_or-map}
use lib.IntN.{pos, negsuc}
use Rattle.definitions.specs.Limits.{signed_half, span_limit, stamp_limit}
use Rattle.definitions.specs.Tropical.{Trop, bot, fin}
use Rattle.definitions.specs.Bytes.{blank_or_within, field_of}
use Rattle.definitions.specs.Offset.{trop_of, off}
use Rattle.definitions.specs.AnswerRecord.{Answer}
use Rattle.definitions.specs.Demands.{Word, Words, Numbered, Handed}
use Rattle.definitions.proofs.Tropical.{bot_not_fin}
use Rattle.definitions.proofs.Offset.{trop_fin, trop_read, within_fits, trop_field_of, off_bound}
use Rattle.definitions.proofs.AnswerFits.{WriterFits}
use Rattle.definitions.proofs.RoundTrip.{class_most, start_most, span_within, stamps_within, highest_most}
use Rattle.answer_reader.specs.Fields.{fields_of}
use Rattle.answer_reader.proofs.ByClass.{stamps_most, picks_most}
use Rattle.checker.proofs.Answers.{within_at, picks_at}
use Rattle.guarantees.specs.Entries.{WriterFields, WriterFieldsFit}

-- ---- offset numbers

-- The offset number of a span or stamp; 0 where it lies below those that have one.
unfoldable pub number_for : Trop → ℕ
number_for bot = 0
number_for (fin (pos k)) = signed_half + k
number_for (fin (negsuc k)) = signed_half - suc k

-- It is the one that stands for it, where there is one.
pub number_is : (x : Trop) (h : Numbered x) → number_for x ≡ h.number
unfolding number_for
number_is bot h = ⊎_elim (λ (e : h.number ≡ 0). sym e) (λ (p : 0 < h.number). absurd (bot_not_fin (sym h.means ∙ trop_fin h.number p))) (eq-zero-or-pos h.number)
number_is (fin (pos k)) h = let r = trop_read h.number h.means in omega (arith, r.0, r.1)
number_is (fin (negsuc k)) h = let r = trop_read h.number h.means in omega (arith, r.0, r.1)

pub number_back : (x : Trop) → Numbered x → trop_of (number_for x) ≡ x
number_back x h = ap trop_of (number_is x h) ∙ h.means

pub number_word : (x : Trop) → Numbered x → Word (number_for x)
number_word x h = omega (arith, number_is x h, h.fits)

-- Blank or within a limit below 2³¹.
pub within_numbered : (limit : ℕ) (x : Trop) → limit < signed_half → blank_or_within limit x ≡ true → Numbered x
within_numbered limit x l e = record { number = off (field_of x); fits = omega (arith, off_bound (field_of x)); means = trop_field_of x (within_fits limit l e) }

-- ---- answers

numbers_back : (xs : List Trop) → ((i : ℕ) → Numbered (get_or xs i bot)) → map trop_of (map number_for xs) ≡ xs
numbers_back [] h = refl
numbers_back (x ∷ xs) h = ap₂ ◌∷◌ (number_back x (h 0)) (numbers_back xs (λ i. h (suc i)))

numbers_words : (xs : List Trop) → ((i : ℕ) → Numbered (get_or xs i bot)) → Word (length xs) → Words (map number_for xs)
unfolding number_for
numbers_words xs h l = record { word = λ i. rw (get_or-map number_for xs i bot) (number_word (get_or xs i bot) (h i)); size = rw length-map l }

-- What is handed to the writer for an answer.
abbrev pub handing : Answer → ℕ → ℕ → WriterFields
handing a n m = record { head = record { class = a.class; span = number_for a.span; start = a.start }; stamps = map number_for a.stamps; picks = a.picks; n = n; m = m }

pub handing_fits : (a : Answer) (n m : ℕ) → Handed a → Word n → Word m → WriterFieldsFit (handing a n m)
handing_fits a n m h v w =
    record { class = h.class; span = number_word a.span h.span; start = h.start; stamps = numbers_words a.stamps h.stamps h.stamps_size; picks = h.picks; n = v; m = w }

-- They mean the answer.
pub handing_means : (a : Answer) → Handed a → fields_of (record { class = a.class; span = number_for a.span; start = a.start }) (map number_for a.stamps) a.picks ≡ a
handing_means a h =
    let e = number_back a.span h.span in
    let f = numbers_back a.stamps h.stamps in
    λ i. record { class = a.class; span = e i; start = a.start; stamps = f i; picks = a.picks }

-- What the writer takes can be handed to it.
pub fits_handed : (a : Answer) (n m room : ℕ) → WriterFits a n m room → Handed a
fits_handed a n m room f =
    let highest = highest_most a.class n m f.n_most f.m_most in
    record {
      class = omega (arith, class_most a.class f.class_known);
      span = within_numbered span_limit a.span (omega arith) (span_within a.class a.span f.form.span_fits_is);
      start = omega (arith, start_most a.class a.start n f.start_fits_is, f.n_most);
      stamps = λ i. within_numbered stamp_limit (get_or a.stamps i bot) (omega arith) (within_at stamp_limit a.stamps (stamps_within a.stamps f.form.stamps_fit_lem) i);
      stamps_size = omega (arith, f.stamps_count, stamps_most a.class n f.n_most);
      picks = record {
        word = λ i. omega (arith, picks_at _ a.picks f.form.picks_fit_lem i, highest);
        size = omega (arith, f.picks_count, picks_most a.class n m f.n_most f.m_most);
      };
    }
