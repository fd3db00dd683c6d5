-- A place and a desk as words.
use Rattle.std.specs.Prelude.{ℕ, zero, suc, ◌+◌, ◌*◌, ◌≤◌, ◌<◌, ◌≡◌, List, [], ◌∷◌, ◌++◌, length, get_or, set, drop}
use Rattle.definitions.specs.Limits.{desk_places, stride}
use Rattle.definitions.specs.Bytes.{put}
use Rattle.definitions.specs.Questions.{part}
use Rattle.desk.specs.declared.state.Place.{Place}
use Rattle.desk.specs.declared.state.Front.{Front}
use Rattle.search.specs.Underway.{class_from}
use Rattle.engine.specs.OneTrial.{class_in}
use Rattle.desk.specs.State.{Desk, desk_of, place_in}

-- The words of a place: ten numbers, then its cells. Of a desk: four numbers, the line, then the places.
abbrev pub place_numbers : ℕ
place_numbers = 10

abbrev pub place_words_is : ℕ
place_words_is = place_numbers + stride

abbrev pub front_numbers : ℕ
front_numbers = 4

abbrev pub front_words_is : ℕ
front_words_is = front_numbers + desk_places

abbrev pub desk_words : ℕ
desk_words = front_words_is + desk_places * place_words_is

-- A place as words, and the place that words are.
abbrev pub place_words : Place → List ℕ
place_words p =
    (p.ticket ∷ p.size ∷ p.pending.n ∷ p.pending.m ∷ p.pending.search.made ∷ class_in p.pending
    ∷ p.pending.search.bracket.low ∷ p.pending.search.bracket.high ∷ p.pending.kept.start ∷ p.pending.kept.second ∷ []) ++ p.pending.kept.picks

abbrev pub place_of : List ℕ → Place
place_of words = record {
  ticket = get_or words 0 0;
  size = get_or words 1 0;
  pending = record {
    n = get_or words 2 0;
    m = get_or words 3 0;
    search = record { made = get_or words 4 0; class = class_from (get_or words 5 0); bracket = record { low = get_or words 6 0; high = get_or words 7 0 } };
    kept = record { start = get_or words 8 0; second = get_or words 9 0; picks = drop place_numbers words };
  };
}

-- The front as words, with what the call tells, and the front that words are.
abbrev pub front_words : Front → ℕ → List ℕ
front_words f told = (f.given ∷ f.head ∷ f.waiting ∷ told ∷ []) ++ f.line

abbrev pub front_of : List ℕ → Front
front_of words = record { given = get_or words 0 0; head = get_or words 1 0; waiting = get_or words 2 0; line = drop front_numbers words }

-- Values are put from a word on; the other words stay.
pub record PutAt (before : List ℕ) (at : ℕ) (vs after : List ℕ) : Type 0 where
  pub same : length after ≡ length before
  pub is : after ≡ put before at vs

-- The place and the places from a word on.
abbrev pub place_from : List ℕ → ℕ → Place
place_from words at = place_of (part words at place_words_is)

unfoldable pub places_from : List ℕ → ℕ → ℕ → List Place
places_from words at zero = []
places_from words at (suc n) = place_from words at ∷ places_from words (at + place_words_is) n

-- The front, the places and the desk in the words.
abbrev pub front_from : List ℕ → Front
front_from words = front_of (part words 0 front_words_is)

abbrev pub places_in : List ℕ → List Place
places_in words = places_from words front_words_is desk_places

abbrev pub desk_from : List ℕ → Desk
desk_from words = desk_of (front_from words) (places_in words)

-- What the last call told.
abbrev pub told_in : List ℕ → ℕ
told_in words = get_or words 3 0

-- The desk in the words with another front, and another place at this one.
abbrev pub seated_in : List ℕ → Front → ℕ → Place → Desk
seated_in words f at c = desk_of f (set (places_in words) at c)

-- A desk is stored: it reads back as itself, and the words behind it stay.
pub record DeskPut (d : Desk) (told : ℕ) (before after : List ℕ) : Type 0 where
  pub same : length after ≡ length before
  pub back : desk_from after ≡ d
  pub told_is : told_in after ≡ told
  pub behind : (k : ℕ) → desk_words ≤ k → get_or after k 0 ≡ get_or before k 0

-- The word that keeps the class of place k, and that it tells this class by its number, 0 for none: other words than 0 to 3 read as none too.
abbrev pub class_place : ℕ → ℕ
class_place k = front_words_is + k * place_words_is + 5

abbrev pub ClassTold : List ℕ → ℕ → Type 0
ClassTold words k = get_or words (class_place k) 0 ≡ class_in (place_in (desk_from words) k).pending

-- The class word of one place tells its class, and those of the others are as they were.
pub record ClassPut (at : ℕ) (before after : List ℕ) : Type 0 where
  pub here : ClassTold after at
  pub there : (k : ℕ) → k < desk_places → (k ≡ at → ⊥) → get_or after (class_place k) 0 ≡ get_or before (class_place k) 0
