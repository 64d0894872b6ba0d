-- The refusals: one table of what each check speaks of, and the order in which a call makes its checks.
-- Assumes nothing.
use Rattle.std.specs.Prelude.{ℕ, ◌<◌, ◌≤◌, ◌≡◌, Bool, not, ◌&&◌, List, [], ◌∷◌, ◌++◌, get_or, T, ltb, eqb}
use Rattle.walks.specs.Walk.{walks, ends}
use Rattle.walks.specs.Few.{AtMost, MoreThan}
use Rattle.rack.specs.Net.{firable, within}
use Rattle.rack.specs.Follow.{ProductMarking, pattern_enabled, pattern_fired, joins, final, step}
use Rattle.rack.specs.Reach.{PatternReaches, ProductReaches}
use Rattle.rack.specs.Layout.{ReadsAs, BreaksAt}
use Rattle.rack.specs.declared.Case.{Case}

-- the checks of the table "Refusal numbers", and their numbers. Those that only some calls make are their own: what such a check speaks of stands
-- beside the outcome of the call that makes it.
pub data Own : Type 0 where
  unexplained lent-room limit given_run unwritable : Own

abbrev pub own_number : Own → ℕ
own_number unexplained = 10
own_number lent-room = 11
own_number limit = 12
own_number given_run = 13
own_number unwritable = 14

-- the common ones, 1 to 9, and one of a call's own
pub data Check : Type 0 where
  work-room layout cycle pattern-count pattern-cap two-join final-left product-count system-cap : Check
  own : Own → Check

abbrev pub number : Check → ℕ
number work-room = 1
number layout = 2
number cycle = 3
number pattern-count = 4
number pattern-cap = 5
number two-join = 6
number final-left = 7
number product-count = 8
number system-cap = 9
number (own k) = own_number k

-- "work room is under 51,200 bytes"
abbrev pub work_room : ℕ
work_room = 51200

-- "over 64 pattern markings are reachable in the pattern alone", "over 512 product markings are reachable"
abbrev pub pattern_most : ℕ
pattern_most = 64

abbrev pub product_most : ℕ
product_most = 512

-- ---- what the checks on the nets of a case speak of

-- the pair k goes from its higher transition u to its lower one
unfoldable pub pair_at : Case → ℕ → ℕ → Bool
pair_at c u k = ltb k c.pairs.count && eqb (get_or c.pairs.higher k 0) u

unfoldable pub lower_of : Case → ℕ → ℕ → ℕ
lower_of c u k = get_or c.pairs.lower k 0

-- 3: "priority pairs close a cycle, a pair of one transition with itself included": a chain of at least one pair leads from a
-- transition back to it
pub record PairCycle (c : Case) : Type 0 where
  pub top : ℕ
  pub pair : ℕ
  pub rest : List ℕ
  pub chain : T (walks (pair_at c) (lower_of c) top (pair ∷ rest))
  pub round : ends (pair_at c) (lower_of c) top (pair ∷ rest) ≡ top

-- 5: "from one of them an enabled pattern transition passes the cap"
pub record PatternOver (c : Case) : Type 0 where
  pub at : List ℕ
  pub by : ℕ
  pub reachable : PatternReaches c at
  pub enabled : T (pattern_enabled c at by)
  pub over : T (not (within 8 c.pattern.cap (pattern_fired c at by)))

-- 6: "in one of them two enabled pattern transitions of one label are found"
pub record TwoJoin (c : Case) : Type 0 where
  pub at : List ℕ
  pub label : ℕ
  pub one : ℕ
  pub other : ℕ
  pub reachable : PatternReaches c at
  pub two : one < other
  pub one_joins : T (joins c at label one)
  pub other_joins : T (joins c at label other)

-- 7: "from a final one an enabled pattern transition leads to one not final"
pub record FinalLeft (c : Case) : Type 0 where
  pub at : List ℕ
  pub by : ℕ
  pub reachable : PatternReaches c at
  pub was_final : T (final c at)
  pub enabled : T (pattern_enabled c at by)
  pub not-final : T (not (final c (pattern_fired c at by)))

-- 9: "from one of them a firable system transition passes the system's cap"
pub record SystemOver (c : Case) : Type 0 where
  pub at : ProductMarking
  pub by : ℕ
  pub reachable : ProductReaches c at
  pub firable_there : T (firable c at.system by)
  pub over : T (not (within 16 c.net.cap (step c at by).system))

-- none of the checks 3 to 9 speaks of a case
pub record NetsPass (c : Case) : Type 0 where
  pub acyclic : PairCycle c → ⊥
  pub few_patterns : AtMost pattern_most (PatternReaches c)
  pub pattern_capped : PatternOver c → ⊥
  pub one_joins : TwoJoin c → ⊥
  pub final_stays : FinalLeft c → ⊥
  pub few_products : AtMost product_most (ProductReaches c)
  pub system_capped : SystemOver c → ⊥

-- ---- the table

-- what a call is asked, as far as the common checks look at it: its file, how long its work room is, and how long that room must be
pub record Question : Type 0 where
  pub file : List ℕ
  pub work : ℕ
  pub needed : ℕ

-- the file reads as a case of which P holds
pub record OfCase (f : List ℕ) (P : Case → Type 0) : Type 0 where
  pub case : Case
  pub reads : ReadsAs f case
  pub is : P case

-- "Given exactly when no earlier check speaks and ..", "Number beside it". Says k n: the call's own check k speaks, with n beside it.
abbrev pub Speaks : Question → (Own → ℕ → Type 0) → Check → ℕ → Type 0
Speaks q Says work-room n = (q.work < q.needed) × (n ≡ 0)
Speaks q Says layout n = BreaksAt q.file n
Speaks q Says cycle n = OfCase q.file PairCycle × (n ≡ 0)
Speaks q Says pattern-count n = OfCase q.file (λ c. MoreThan pattern_most (PatternReaches c)) × (n ≡ 0)
Speaks q Says pattern-cap n = OfCase q.file PatternOver × (n ≡ 0)
Speaks q Says two-join n = OfCase q.file TwoJoin × (n ≡ 0)
Speaks q Says final-left n = OfCase q.file FinalLeft × (n ≡ 0)
Speaks q Says product-count n = OfCase q.file (λ c. MoreThan product_most (ProductReaches c)) × (n ≡ 0)
Speaks q Says system-cap n = OfCase q.file SystemOver × (n ≡ 0)
Speaks q Says (own k) n = Says k n

-- the opposite of each: the check has nothing to say. Rests k: the call's own check k has not.
abbrev pub Silent : Question → (Own → Type 0) → Check → Type 0
Silent q Rests work-room = q.needed ≤ q.work
Silent q Rests layout = OfCase q.file (λ c. Unit {0})
Silent q Rests cycle = OfCase q.file (λ c. PairCycle c → ⊥)
Silent q Rests pattern-count = OfCase q.file (λ c. AtMost pattern_most (PatternReaches c))
Silent q Rests pattern-cap = OfCase q.file (λ c. PatternOver c → ⊥)
Silent q Rests two-join = OfCase q.file (λ c. TwoJoin c → ⊥)
Silent q Rests final-left = OfCase q.file (λ c. FinalLeft c → ⊥)
Silent q Rests product-count = OfCase q.file (λ c. AtMost product_most (ProductReaches c))
Silent q Rests system-cap = OfCase q.file (λ c. SystemOver c → ⊥)
Silent q Rests (own k) = Rests k

-- ---- the order of the checks

-- of a list of checks, the first that speaks has the number n, with m beside it
pub data FirstToSpeak (Says : Check → ℕ → Type 0) (Rests : Check → Type 0) : List Check → ℕ → ℕ → Type 0 where
  speaks : {k : Check} {ks : List Check} {m : ℕ} → Says k m → FirstToSpeak Says Rests (k ∷ ks) (number k) m
  rests : {k : Check} {ks : List Check} {n m : ℕ} → Rests k → FirstToSpeak Says Rests ks n m → FirstToSpeak Says Rests (k ∷ ks) n m

-- none of them speaks
pub data AllSilent (Rests : Check → Type 0) : List Check → Type 0 where
  none : AllSilent Rests []
  also : {k : Check} {ks : List Check} → Rests k → AllSilent Rests ks → AllSilent Rests (k ∷ ks)

-- the checks on the nets of a case, 3 to 9, and all that are common, 1 to 9
abbrev pub net_order : List Check
net_order = cycle ∷ pattern-count ∷ pattern-cap ∷ two-join ∷ final-left ∷ product-count ∷ system-cap ∷ []

abbrev pub common_order : List Check
common_order = work-room ∷ layout ∷ net_order

-- "Checks by call. Reader: 2. Verdict: 1 to 11 in order. Listing: 1, 12, 2 to 9, 13, 11. Writer: 14, 11. Replay: 2 to 7."
abbrev pub reader_order : List Check
reader_order = layout ∷ []

abbrev pub verdict_order : List Check
verdict_order = common_order ++ (own unexplained ∷ own lent-room ∷ [])

abbrev pub listing_order : List Check
listing_order = work-room ∷ own limit ∷ layout ∷ (net_order ++ (own given_run ∷ own lent-room ∷ []))

abbrev pub writer_order : List Check
writer_order = own unwritable ∷ own lent-room ∷ []

abbrev pub replay_order : List Check
replay_order = layout ∷ cycle ∷ pattern-count ∷ pattern-cap ∷ two-join ∷ final-left ∷ []

-- a call that asks q makes the checks ks: the first that speaks is n, with m beside it
abbrev pub Refuses : Question → (Own → ℕ → Type 0) → (Own → Type 0) → List Check → ℕ → ℕ → Type 0
Refuses q Says Rests ks n m = FirstToSpeak (Speaks q Says) (Silent q Rests) ks n m

-- none speaks
abbrev pub Accepts : Question → (Own → Type 0) → List Check → Type 0
Accepts q Rests ks = AllSilent (Silent q Rests) ks
