-- Asking a program for explanations to the end, and what a whole listing is.
-- Assumes nothing.
use Rattle.std.specs.Prelude.{ℕ, ◌<◌, ◌≤◌, ◌≡◌, Bool, List, [], ◌∷◌, length, take, T}
use Rattle.walks.specs.Below.{pick}
use Rattle.rack.specs.Run.{Explains, matches}
use Rattle.rack.specs.Listing.{Asked, from_start, after, later}
use Rattle.rack.specs.Refusal.{work_room}
use Rattle.rack.specs.ListingOutcome.{ListingIs}
use Rattle.rack.specs.declared.Case.{Case}
use Rattle.rack.specs.declared.Listed.{Listed}
use Rattle.rack.specs.declared.Listed.TheVariants.{Matching, Other, End}

-- ---- a program

-- what a program answers to a question, and what the two rooms hold then
pub record Answered : Type 0 where
  pub answer : Listed
  pub room : List ℕ
  pub work : List ℕ

-- every number of the run is below b
abbrev pub Low : ℕ → List ℕ → Type 0
Low b [] = Unit {0}
Low b (t ∷ r) = (t < b) × Low b r

-- a question that can be put to the calls: from the start (`listing::first`), or after a run that is lent as bytes (`listing::next`)
abbrev pub InBytes : Asked → Type 0
InBytes from_start = Unit {0}
InBytes (after g) = Low 256 g

-- for each such question the program is lent a room for the run and a work room; its answer is one that the contract of the listing allows. The contracts
-- of the two calls say just this: `first` for the question from the start, `next` for every given run of bytes.
abbrev pub Meets : List ℕ → ℕ → (Asked → List ℕ) → (Asked → List ℕ) → (Asked → Answered) → Type 0
Meets f limit room work p = (a : Asked) → InBytes a → ListingIs f limit a (room a) (work a) (p a).answer (p a).room (p a).work

-- "enough work room and run room for that length"
pub record Enough (limit : ℕ) (room work : Asked → List ℕ) : Type 0 where
  pub for_runs : (a : Asked) → limit ≤ length (room a)
  pub for_work : (a : Asked) → work_room ≤ length (work a)

-- ---- asking it to the end

-- a run and its mark: matching or not
pub record Explanation : Type 0 where
  pub matching : Bool
  pub run : List ℕ

-- the answer that gives a run n long with the mark k
unfoldable pub gives : Bool → ℕ → Listed
gives k n = pick k (Matching n) (Other n)

-- asked a, then after each run that it has written to the front of the room, until it says the end, the program gives these in this order
pub data Asking (p : Asked → Answered) : Asked → List Explanation → Type 0 where
  ended : {a : Asked} → (p a).answer ≡ End → Asking p a []
  given : {a : Asked} {k : Bool} {l : List Explanation} (n : ℕ) → (p a).answer ≡ gives k n → Asking p (after (take n (p a).room)) l
      → Asking p a (record { matching = k; run = take n (p a).room } ∷ l)

-- ---- a whole listing

-- each of them has P
pub data Every (P : Explanation → Type 0) : List Explanation → Type 0 where
  none : Every P []
  also : {x : Explanation} {l : List Explanation} → P x → Every P l → Every P (x ∷ l)

-- one of them is the run s
pub data Among (s : List ℕ) : List Explanation → Type 0 where
  here : {x : Explanation} {l : List Explanation} → x.run ≡ s → Among s (x ∷ l)
  there : {x : Explanation} {l : List Explanation} → Among s l → Among s (x ∷ l)

-- each comes later than the one before it in the order of runs, and the first later than what was asked after
pub data InOrder : Asked → List Explanation → Type 0 where
  none : {a : Asked} → InOrder a []
  then : {a : Asked} {x : Explanation} {l : List Explanation} → T (later a x.run) → InOrder (after x.run) l → InOrder a (x ∷ l)

-- an explanation within the limit, truly marked
pub record Truly (c : Case) (limit : ℕ) (x : Explanation) : Type 0 where
  pub explains : Explains c x.run
  pub within : length x.run ≤ limit
  pub marked : matches c x.run ≡ x.matching

-- all explanations within the limit that come later than a: nothing else, in order, none left out
pub record Whole (c : Case) (limit : ℕ) (a : Asked) (l : List Explanation) : Type 0 where
  pub truly : Every (Truly c limit) l
  pub in_order : InOrder a l
  pub none_left : (s : List ℕ) → Explains c s → length s ≤ limit → T (later a s) → Among s l
