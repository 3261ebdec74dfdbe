-- Lines of text, in ASCII: a head, then numbers in decimal digits, each after a space. Assumes nothing.
use Rattle.std.specs.Prelude.{cond, ◌≡◌, List, [], ◌∷◌, ◌++◌, ℕ, zero, suc, ◌+◌, ◌/◌, ◌%◌, ◌≤◌, ltb, length, take, drop}
use Rattle.std.specs.Borrow.{GName}
use Prim.Native.String.{String}
use Prim.Native.Char.{code}
use Rattle.lines.specs.declared.Text.{Text}

-- a word's letters
abbrev pub bytes : String → List ℕ
bytes String.[] = []
bytes (String.◌∷◌ c s) = code c ∷ bytes s

-- the digits of a number that has at most d of them: a number below ten is its digit, any other has the digits of its tenth before its last
unfoldable pub digits : ℕ → ℕ → List ℕ
digits zero n = []
digits (suc d) n = cond (ltb n 10) ((48 + n) ∷ []) (digits d (n / 10) ++ ((48 + n % 10) ∷ []))

-- no number of 64 bits has more than twenty
abbrev pub decimal_room : ℕ
decimal_room = 20

unfoldable pub decimal : ℕ → List ℕ
decimal n = digits decimal_room n

-- a number after a space, and all numbers of a list
unfoldable pub field : ℕ → List ℕ
field n = 32 ∷ decimal n

unfoldable pub fields : List ℕ → List ℕ
fields [] = []
fields (n ∷ l) = field n ++ fields l

-- the most bytes that an entry of a table, below 2 ^ 16, takes in a line
abbrev pub field_room : ℕ
field_room = 6

-- what follows the head of a line: the numbers, and the line's end
unfoldable pub tail : List ℕ → List ℕ
tail l = fields l ++ (10 ∷ [])

unfoldable pub line : List ℕ → List ℕ → List ℕ
line head l = head ++ tail l

-- a text in the making: what it says so far, how many bytes its buffer has, what stands in it behind the text, and which buffer that is: the name of its loan
pub record Page : Type 0 where
  pub said : List ℕ
  pub room : ℕ
  pub rest : List ℕ
  pub buffer : GName

-- that of the program's text: whoever lent the buffer finds in it afterwards what is said, and behind that the rest
unfoldable pub page : Text → Page
page t = record { said = take t.len t.bytes.now; room = length t.bytes.now; rest = drop t.len t.bytes.now; buffer = t.bytes.ghost_name }

-- there is room for n bytes more
abbrev pub Fits : Page → ℕ → Type 0
Fits p n = length p.said + n ≤ p.room

-- what a call that puts text behind the first `at` bytes of a buffer leaves in it, with the new end r
pub record Put (before : List ℕ) (at : ℕ) (text after : List ℕ) (r : ℕ) : Type 0 where
  pub end : r ≡ at + length text
  pub says : take r after ≡ take at before ++ text
