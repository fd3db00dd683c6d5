-- The starred examples of document 01, as one table: the problem in words and in bytes, an answer in bytes with a start and a pick
-- table, its class and span, where document 02, 2.4, gives J least −10 and D none, and what the checker says of it. The words are rows of
-- leads, anchor first: left, then right.
use Rattle.std.specs.Prelude.{ℕ, List, [], ◌∷◌, pos, neg_ℤ}
use Rattle.definitions.specs.Limits.{class_optimal, class_unbounded, class_infeasible}
use Rattle.definitions.specs.Tropical.{Trop, bot, fin}
use Rattle.definitions.specs.Verdict.{Verdict, accepted, refused}

-- Leads in words.
abbrev pub blank : Trop
blank = bot

abbrev pub lead : ℕ → Trop
lead k = fin (pos k)

abbrev pub early : ℕ → Trop
early k = fin (neg_ℤ (pos k))

-- A row in words: its left leads and its right leads.
pub record Row : Type 0 where
  pub left : List Trop
  pub right : List Trop

pub record Example : Type 0 where
  pub n : ℕ
  pub m : ℕ
  pub rows : List Row
  pub problem : List ℕ
  pub answer : List ℕ
  pub class : ℕ
  pub span : Trop
  pub verdict : Verdict

-- A. n = m = 0, first 5, second 2: least 3.
unfoldable pub example_a : Example
example_a =
    record {
      n = 0;
      m = 0;
      rows =
          record { left = lead 5 ∷ []; right = lead 2 ∷ [] }
          ∷ [];
      problem = 14 ∷ 0 ∷ 0 ∷ 0 ∷ 1 ∷ 0 ∷ 0 ∷ 0 ∷ 0 ∷ 0 ∷ 5 ∷ 0 ∷ 0 ∷ 0 ∷ 2 ∷ 0 ∷ 0 ∷ 0 ∷ [];
      answer = 18 ∷ 0 ∷ 0 ∷ 0 ∷ 4 ∷ 0 ∷ 0 ∷ 0 ∷ 1 ∷ 0 ∷ 3 ∷ 0 ∷ 0 ∷ 0 ∷ 0 ∷ 0 ∷ 0 ∷ 0 ∷ 0 ∷ 0 ∷ 1 ∷ 0 ∷ [];
      class = class_optimal;
      span = lead 3;
      verdict = accepted class_optimal (lead 3);
    }

-- B. First blank, second 2: bottomless.
unfoldable pub example_b : Example
example_b =
    record {
      n = 0;
      m = 0;
      rows =
          record { left = blank ∷ []; right = lead 2 ∷ [] }
          ∷ [];
      problem = 14 ∷ 0 ∷ 0 ∷ 0 ∷ 1 ∷ 0 ∷ 0 ∷ 0 ∷ 0 ∷ 0 ∷ 0 ∷ 0 ∷ 0 ∷ 128 ∷ 2 ∷ 0 ∷ 0 ∷ 0 ∷ [];
      answer = 14 ∷ 0 ∷ 0 ∷ 0 ∷ 4 ∷ 0 ∷ 0 ∷ 0 ∷ 2 ∷ 0 ∷ 0 ∷ 0 ∷ 0 ∷ 128 ∷ 1 ∷ 0 ∷ 0 ∷ 0 ∷ [];
      class = class_unbounded;
      span = blank;
      verdict = accepted class_unbounded blank;
    }

-- C. First 5, second blank: none.
unfoldable pub example_c : Example
example_c =
    record {
      n = 0;
      m = 0;
      rows =
          record { left = lead 5 ∷ []; right = blank ∷ [] }
          ∷ [];
      problem = 14 ∷ 0 ∷ 0 ∷ 0 ∷ 1 ∷ 0 ∷ 0 ∷ 0 ∷ 0 ∷ 0 ∷ 5 ∷ 0 ∷ 0 ∷ 0 ∷ 0 ∷ 0 ∷ 0 ∷ 128 ∷ [];
      answer = 14 ∷ 0 ∷ 0 ∷ 0 ∷ 4 ∷ 0 ∷ 0 ∷ 0 ∷ 3 ∷ 0 ∷ 0 ∷ 0 ∷ 0 ∷ 128 ∷ 0 ∷ 0 ∷ 1 ∷ 0 ∷ [];
      class = class_infeasible;
      span = blank;
      verdict = accepted class_infeasible blank;
    }

-- D. Both blank: none, as no plan counts.
unfoldable pub example_d : Example
example_d =
    record {
      n = 0;
      m = 0;
      rows =
          record { left = blank ∷ []; right = blank ∷ [] }
          ∷ [];
      problem = 14 ∷ 0 ∷ 0 ∷ 0 ∷ 1 ∷ 0 ∷ 0 ∷ 0 ∷ 0 ∷ 0 ∷ 0 ∷ 0 ∷ 0 ∷ 128 ∷ 0 ∷ 0 ∷ 0 ∷ 128 ∷ [];
      answer = 14 ∷ 0 ∷ 0 ∷ 0 ∷ 4 ∷ 0 ∷ 0 ∷ 0 ∷ 3 ∷ 0 ∷ 0 ∷ 0 ∷ 0 ∷ 128 ∷ 1 ∷ 0 ∷ 0 ∷ 0 ∷ [];
      class = class_infeasible;
      span = blank;
      verdict = accepted class_infeasible blank;
    }

-- E. n = 1, rule anchor + 30 ≤ moment 1, span moment 1 − anchor: least 30.
unfoldable pub example_e : Example
example_e =
    record {
      n = 1;
      m = 1;
      rows =
          record { left = lead 30 ∷ blank ∷ []; right = blank ∷ lead 0 ∷ [] }
          ∷ record { left = blank ∷ lead 0 ∷ []; right = lead 0 ∷ blank ∷ [] }
          ∷ [];
      problem = 38 ∷ 0 ∷ 0 ∷ 0 ∷ 1 ∷ 0 ∷ 1 ∷ 0 ∷ 1 ∷ 0 ∷ 30 ∷ 0 ∷ 0 ∷ 0 ∷ 0 ∷ 0 ∷ 0 ∷ 128 ∷ 0 ∷ 0 ∷ 0 ∷ 128 ∷ 0 ∷ 0 ∷ 0 ∷ 0 ∷ 0 ∷ 0 ∷ 0 ∷ 128 ∷ 0 ∷ 0 ∷ 0 ∷ 0 ∷ 0 ∷ 0 ∷ 0 ∷ 0 ∷ 0 ∷ 0 ∷ 0 ∷ 128 ∷ [];
      answer = 24 ∷ 0 ∷ 0 ∷ 0 ∷ 4 ∷ 0 ∷ 1 ∷ 0 ∷ 1 ∷ 0 ∷ 30 ∷ 0 ∷ 0 ∷ 0 ∷ 0 ∷ 0 ∷ 0 ∷ 0 ∷ 0 ∷ 0 ∷ 30 ∷ 0 ∷ 0 ∷ 0 ∷ 1 ∷ 0 ∷ 2 ∷ 0 ∷ [];
      class = class_optimal;
      span = lead 30;
      verdict = accepted class_optimal (lead 30);
    }

-- F. E with span anchor − moment 1: bottomless.
unfoldable pub example_f : Example
example_f =
    record {
      n = 1;
      m = 1;
      rows =
          record { left = lead 30 ∷ blank ∷ []; right = blank ∷ lead 0 ∷ [] }
          ∷ record { left = lead 0 ∷ blank ∷ []; right = blank ∷ lead 0 ∷ [] }
          ∷ [];
      problem = 38 ∷ 0 ∷ 0 ∷ 0 ∷ 1 ∷ 0 ∷ 1 ∷ 0 ∷ 1 ∷ 0 ∷ 30 ∷ 0 ∷ 0 ∷ 0 ∷ 0 ∷ 0 ∷ 0 ∷ 128 ∷ 0 ∷ 0 ∷ 0 ∷ 128 ∷ 0 ∷ 0 ∷ 0 ∷ 0 ∷ 0 ∷ 0 ∷ 0 ∷ 0 ∷ 0 ∷ 0 ∷ 0 ∷ 128 ∷ 0 ∷ 0 ∷ 0 ∷ 128 ∷ 0 ∷ 0 ∷ 0 ∷ 0 ∷ [];
      answer = 16 ∷ 0 ∷ 0 ∷ 0 ∷ 4 ∷ 0 ∷ 1 ∷ 0 ∷ 2 ∷ 0 ∷ 0 ∷ 0 ∷ 0 ∷ 128 ∷ 2 ∷ 0 ∷ 2 ∷ 0 ∷ 2 ∷ 0 ∷ [];
      class = class_unbounded;
      span = blank;
      verdict = accepted class_unbounded blank;
    }

-- G. E and moment 1 ≤ anchor + 20: none.
unfoldable pub example_g : Example
example_g =
    record {
      n = 1;
      m = 2;
      rows =
          record { left = lead 30 ∷ blank ∷ []; right = blank ∷ lead 0 ∷ [] }
          ∷ record { left = blank ∷ lead 0 ∷ []; right = lead 20 ∷ blank ∷ [] }
          ∷ record { left = blank ∷ lead 0 ∷ []; right = lead 0 ∷ blank ∷ [] }
          ∷ [];
      problem = 54 ∷ 0 ∷ 0 ∷ 0 ∷ 1 ∷ 0 ∷ 1 ∷ 0 ∷ 2 ∷ 0 ∷ 30 ∷ 0 ∷ 0 ∷ 0 ∷ 0 ∷ 0 ∷ 0 ∷ 128 ∷ 0 ∷ 0 ∷ 0 ∷ 128 ∷ 0 ∷ 0 ∷ 0 ∷ 0 ∷ 0 ∷ 0 ∷ 0 ∷ 128 ∷ 0 ∷ 0 ∷ 0 ∷ 0 ∷ 20 ∷ 0 ∷ 0 ∷ 0 ∷ 0 ∷ 0 ∷ 0 ∷ 128 ∷ 0 ∷ 0 ∷ 0 ∷ 128 ∷ 0 ∷ 0 ∷ 0 ∷ 0 ∷ 0 ∷ 0 ∷ 0 ∷ 0 ∷ 0 ∷ 0 ∷ 0 ∷ 128 ∷ [];
      answer = 16 ∷ 0 ∷ 0 ∷ 0 ∷ 4 ∷ 0 ∷ 1 ∷ 0 ∷ 3 ∷ 0 ∷ 0 ∷ 0 ∷ 0 ∷ 128 ∷ 0 ∷ 0 ∷ 1 ∷ 0 ∷ 2 ∷ 0 ∷ [];
      class = class_infeasible;
      span = blank;
      verdict = accepted class_infeasible blank;
    }

-- H. G with 30 for 20: least 30.
unfoldable pub example_h : Example
example_h =
    record {
      n = 1;
      m = 2;
      rows =
          record { left = lead 30 ∷ blank ∷ []; right = blank ∷ lead 0 ∷ [] }
          ∷ record { left = blank ∷ lead 0 ∷ []; right = lead 30 ∷ blank ∷ [] }
          ∷ record { left = blank ∷ lead 0 ∷ []; right = lead 0 ∷ blank ∷ [] }
          ∷ [];
      problem = 54 ∷ 0 ∷ 0 ∷ 0 ∷ 1 ∷ 0 ∷ 1 ∷ 0 ∷ 2 ∷ 0 ∷ 30 ∷ 0 ∷ 0 ∷ 0 ∷ 0 ∷ 0 ∷ 0 ∷ 128 ∷ 0 ∷ 0 ∷ 0 ∷ 128 ∷ 0 ∷ 0 ∷ 0 ∷ 0 ∷ 0 ∷ 0 ∷ 0 ∷ 128 ∷ 0 ∷ 0 ∷ 0 ∷ 0 ∷ 30 ∷ 0 ∷ 0 ∷ 0 ∷ 0 ∷ 0 ∷ 0 ∷ 128 ∷ 0 ∷ 0 ∷ 0 ∷ 128 ∷ 0 ∷ 0 ∷ 0 ∷ 0 ∷ 0 ∷ 0 ∷ 0 ∷ 0 ∷ 0 ∷ 0 ∷ 0 ∷ 128 ∷ [];
      answer = 24 ∷ 0 ∷ 0 ∷ 0 ∷ 4 ∷ 0 ∷ 1 ∷ 0 ∷ 1 ∷ 0 ∷ 30 ∷ 0 ∷ 0 ∷ 0 ∷ 0 ∷ 0 ∷ 0 ∷ 0 ∷ 0 ∷ 0 ∷ 30 ∷ 0 ∷ 0 ∷ 0 ∷ 1 ∷ 0 ∷ 3 ∷ 0 ∷ [];
      class = class_optimal;
      span = lead 30;
      verdict = accepted class_optimal (lead 30);
    }

-- I. Anchor + 60 ≤ later of moment 1 and moment 2 + 15, span later of both − anchor: least 45.
unfoldable pub example_i : Example
example_i =
    record {
      n = 2;
      m = 1;
      rows =
          record { left = lead 60 ∷ blank ∷ blank ∷ []; right = blank ∷ lead 0 ∷ lead 15 ∷ [] }
          ∷ record { left = blank ∷ lead 0 ∷ lead 0 ∷ []; right = lead 0 ∷ blank ∷ blank ∷ [] }
          ∷ [];
      problem = 54 ∷ 0 ∷ 0 ∷ 0 ∷ 1 ∷ 0 ∷ 2 ∷ 0 ∷ 1 ∷ 0 ∷ 60 ∷ 0 ∷ 0 ∷ 0 ∷ 0 ∷ 0 ∷ 0 ∷ 128 ∷ 0 ∷ 0 ∷ 0 ∷ 128 ∷ 0 ∷ 0 ∷ 0 ∷ 128 ∷ 0 ∷ 0 ∷ 0 ∷ 0 ∷ 15 ∷ 0 ∷ 0 ∷ 0 ∷ 0 ∷ 0 ∷ 0 ∷ 128 ∷ 0 ∷ 0 ∷ 0 ∷ 0 ∷ 0 ∷ 0 ∷ 0 ∷ 0 ∷ 0 ∷ 0 ∷ 0 ∷ 0 ∷ 0 ∷ 0 ∷ 0 ∷ 128 ∷ 0 ∷ 0 ∷ 0 ∷ 128 ∷ [];
      answer = 30 ∷ 0 ∷ 0 ∷ 0 ∷ 4 ∷ 0 ∷ 2 ∷ 0 ∷ 1 ∷ 0 ∷ 45 ∷ 0 ∷ 0 ∷ 0 ∷ 0 ∷ 0 ∷ 0 ∷ 0 ∷ 0 ∷ 0 ∷ 0 ∷ 0 ∷ 0 ∷ 0 ∷ 45 ∷ 0 ∷ 0 ∷ 0 ∷ 1 ∷ 0 ∷ 2 ∷ 0 ∷ 2 ∷ 0 ∷ [];
      class = class_optimal;
      span = lead 45;
      verdict = accepted class_optimal (lead 45);
    }

-- J. Moment 2 − 10 ≤ moment 1, span moment 1 − moment 2: least −10.
unfoldable pub example_j : Example
example_j =
    record {
      n = 2;
      m = 1;
      rows =
          record { left = blank ∷ blank ∷ early 10 ∷ []; right = blank ∷ lead 0 ∷ blank ∷ [] }
          ∷ record { left = blank ∷ lead 0 ∷ blank ∷ []; right = blank ∷ blank ∷ lead 0 ∷ [] }
          ∷ [];
      problem = 54 ∷ 0 ∷ 0 ∷ 0 ∷ 1 ∷ 0 ∷ 2 ∷ 0 ∷ 1 ∷ 0 ∷ 0 ∷ 0 ∷ 0 ∷ 128 ∷ 0 ∷ 0 ∷ 0 ∷ 128 ∷ 246 ∷ 255 ∷ 255 ∷ 255 ∷ 0 ∷ 0 ∷ 0 ∷ 128 ∷ 0 ∷ 0 ∷ 0 ∷ 0 ∷ 0 ∷ 0 ∷ 0 ∷ 128 ∷ 0 ∷ 0 ∷ 0 ∷ 128 ∷ 0 ∷ 0 ∷ 0 ∷ 0 ∷ 0 ∷ 0 ∷ 0 ∷ 128 ∷ 0 ∷ 0 ∷ 0 ∷ 128 ∷ 0 ∷ 0 ∷ 0 ∷ 128 ∷ 0 ∷ 0 ∷ 0 ∷ 0 ∷ [];
      answer = 30 ∷ 0 ∷ 0 ∷ 0 ∷ 4 ∷ 0 ∷ 2 ∷ 0 ∷ 1 ∷ 0 ∷ 246 ∷ 255 ∷ 255 ∷ 255 ∷ 1 ∷ 0 ∷ 0 ∷ 0 ∷ 0 ∷ 0 ∷ 246 ∷ 255 ∷ 255 ∷ 255 ∷ 0 ∷ 0 ∷ 0 ∷ 0 ∷ 0 ∷ 0 ∷ 2 ∷ 0 ∷ 1 ∷ 0 ∷ [];
      class = class_optimal;
      span = early 10;
      verdict = accepted class_optimal (early 10);
    }

-- K. E and a rule with moment 1 left, right all blank: none.
unfoldable pub example_k : Example
example_k =
    record {
      n = 1;
      m = 2;
      rows =
          record { left = lead 30 ∷ blank ∷ []; right = blank ∷ lead 0 ∷ [] }
          ∷ record { left = blank ∷ lead 0 ∷ []; right = blank ∷ blank ∷ [] }
          ∷ record { left = blank ∷ lead 0 ∷ []; right = lead 0 ∷ blank ∷ [] }
          ∷ [];
      problem = 54 ∷ 0 ∷ 0 ∷ 0 ∷ 1 ∷ 0 ∷ 1 ∷ 0 ∷ 2 ∷ 0 ∷ 30 ∷ 0 ∷ 0 ∷ 0 ∷ 0 ∷ 0 ∷ 0 ∷ 128 ∷ 0 ∷ 0 ∷ 0 ∷ 128 ∷ 0 ∷ 0 ∷ 0 ∷ 0 ∷ 0 ∷ 0 ∷ 0 ∷ 128 ∷ 0 ∷ 0 ∷ 0 ∷ 0 ∷ 0 ∷ 0 ∷ 0 ∷ 128 ∷ 0 ∷ 0 ∷ 0 ∷ 128 ∷ 0 ∷ 0 ∷ 0 ∷ 128 ∷ 0 ∷ 0 ∷ 0 ∷ 0 ∷ 0 ∷ 0 ∷ 0 ∷ 0 ∷ 0 ∷ 0 ∷ 0 ∷ 128 ∷ [];
      answer = 16 ∷ 0 ∷ 0 ∷ 0 ∷ 4 ∷ 0 ∷ 1 ∷ 0 ∷ 3 ∷ 0 ∷ 0 ∷ 0 ∷ 0 ∷ 128 ∷ 0 ∷ 0 ∷ 1 ∷ 0 ∷ 2 ∷ 0 ∷ [];
      class = class_infeasible;
      span = blank;
      verdict = accepted class_infeasible blank;
    }

-- M. E with stamp and span 31, picks 1 and 2: not certified, a cycle weighs 0. Class and span are those of the answer, not of the problem.
unfoldable pub example_m : Example
example_m =
    record {
      n = 1;
      m = 1;
      rows =
          record { left = lead 30 ∷ blank ∷ []; right = blank ∷ lead 0 ∷ [] }
          ∷ record { left = blank ∷ lead 0 ∷ []; right = lead 0 ∷ blank ∷ [] }
          ∷ [];
      problem = 38 ∷ 0 ∷ 0 ∷ 0 ∷ 1 ∷ 0 ∷ 1 ∷ 0 ∷ 1 ∷ 0 ∷ 30 ∷ 0 ∷ 0 ∷ 0 ∷ 0 ∷ 0 ∷ 0 ∷ 128 ∷ 0 ∷ 0 ∷ 0 ∷ 128 ∷ 0 ∷ 0 ∷ 0 ∷ 0 ∷ 0 ∷ 0 ∷ 0 ∷ 128 ∷ 0 ∷ 0 ∷ 0 ∷ 0 ∷ 0 ∷ 0 ∷ 0 ∷ 0 ∷ 0 ∷ 0 ∷ 0 ∷ 128 ∷ [];
      answer = 24 ∷ 0 ∷ 0 ∷ 0 ∷ 4 ∷ 0 ∷ 1 ∷ 0 ∷ 1 ∷ 0 ∷ 31 ∷ 0 ∷ 0 ∷ 0 ∷ 0 ∷ 0 ∷ 0 ∷ 0 ∷ 0 ∷ 0 ∷ 31 ∷ 0 ∷ 0 ∷ 0 ∷ 1 ∷ 0 ∷ 2 ∷ 0 ∷ [];
      class = class_optimal;
      span = lead 31;
      verdict = refused 14;
    }

-- The table.
unfoldable pub examples : List Example
examples =
    example_a
    ∷ example_b
    ∷ example_c
    ∷ example_d
    ∷ example_e
    ∷ example_f
    ∷ example_g
    ∷ example_h
    ∷ example_i
    ∷ example_j
    ∷ example_k
    ∷ example_m
    ∷ []
