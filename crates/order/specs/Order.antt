-- An order among patterns: what explains a pattern explains all that the pattern explains. Claimed of the answers of `finder::cover_test` and of the
-- table that `finder::cover_list` leaves. i, m, q and r are lengths of prefixes. Assumes nothing.
use Rattle.std.specs.Prelude.{◌≡◌, List, [], ◌∷◌, ◌⊎◌, ℕ, ◌≤◌, ◌<◌, length, get_or, take}
use Rattle.words.specs.Answers.{Yes}
use Rattle.words.specs.declared.Listed.{Listed}
use Rattle.words.specs.Refusals.{log_no, table_no}
use Rattle.words.specs.Answers.{cover_test_answer, cover_list_outcome}
use Rattle.words.proofs.Listings.{Rising}

module _ (x : List ℕ) where
  -- the call, asked whether the first q readings of x cover the first i, answers Yes
  infix 4 ◌covers◌
  abbrev ◌covers◌ : ℕ → ℕ → Type 0
  q covers i = cover_test_answer x i q ≡ Yes

  pub record Order : Type 0 where
    -- 1. each prefix covers itself
    pub self : (i : ℕ) → 1 ≤ i → i ≤ length x → i covers i
    -- 2. two prefixes that cover each other have equal length
    pub antisym : (q r : ℕ) → q covers r → r covers q → q ≡ r
    -- 3. covering carries over from first to second to third
    pub through : (q r i : ℕ) → q covers r → r covers i → q covers i
    -- 4. of any two covers of one prefix, the shorter covers the longer
    pub nested : (q r i : ℕ) → q covers i → r covers i → q ≤ r → q covers r

  -- The covers of one prefix form a chain: of any two, one covers the other
  abbrev pub Chain : ℕ → Type 0
  Chain i = (q r : ℕ) → q covers i → r covers i → (q covers r) ⊎ (r covers q)

  -- The list l is that chain
  pub record ChainList (i : ℕ) (l : List ℕ) : Type 0 where
    -- it has every cover of i and nothing else, rising
    pub all : Rising (λ q. q covers i) l
    -- each entry is covered by every entry before it
    pub before : (j k : ℕ) → j < k → k < length l → get_or l j 0 covers get_or l k 0
    -- the shortest entry covers every prefix that any entry covers
    pub shortest : (k m : ℕ) → k < length l → get_or l k 0 covers m → get_or l 0 0 covers m

-- ---- what is proved. The premise is that the log is accepted, for the list that its call is, and nothing more

abbrev pub Ordered : Type 0
Ordered = (x : List ℕ) → log_no (length x) ≡ 0 → Order x

abbrev pub Chained : Type 0
Chained = (x : List ℕ) → log_no (length x) ≡ 0 → (i : ℕ) → Chain x i

-- of a table t the call leaves s and answers a: the list is the first entries of s, as many as a says
abbrev pub ListChained : Type 0
ListChained = (x t s : List ℕ) (a : Listed) → record { answer = a; tables = s ∷ [] } ≡ cover_list_outcome x t → table_no (length x) (length t ∷ []) ≡ 0
    → ChainList x (length x) (take a.used s)
