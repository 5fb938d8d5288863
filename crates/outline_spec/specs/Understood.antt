-- WHAT A TEXT SAYS: a content, or the line that is not understood and why, the first such line and in it the first reason. Assumes nothing.
use Rattle.std.specs.Prelude.{List, [], ◌∷◌, ◌++◌, Bool, true, false, ◌&&◌, cond, ℕ, suc, ◌+◌, ◌-◌, ◌*◌, eqb, leb, ltb, length}
use Rattle.std.proofs.Math.Option.{Option, none, some}
use Rattle.plan.specs.Limits.{between, most_cells, most_allowance, first_letter, last_letter}
use Rattle.plan.specs.Questions.{every, lower}
use Rattle.listing.specs.Printed.{Bytes, space, line_feed, digit}
use Rattle.content.specs.Content.{Item, Content}
use Rattle.outline_spec.specs.declared.Fault.{Fault}
use Rattle.outline_spec.specs.declared.Fault.TheVariants.{StrangeByte, LongLine, ManyCells, NoAllowance, OddBlanks, UnknownWord, UnknownField, LargeNumber, OpenLabel, Misplaced, EmptyText}
use Rattle.outline_spec.specs.Outline.{allowance_word, width_word, depth_word, rank_word, under_word, quote, label_word, word, nearest, level_under, natural}

-- ---- limits: of a line, and of the numbers, those that a record holds
abbrev pub most_line : ℕ
most_line = 255

abbrev pub most_pair : ℕ
most_pair = 65535

abbrev pub most_byte : ℕ
most_byte = 255

-- ---- lines: a line feed ends each; after the last it may be left out
unfoldable pub begun : ℕ → List Bytes → List Bytes
begun b [] = (b ∷ []) ∷ []
begun b (l ∷ ls) = (b ∷ l) ∷ ls

unfoldable pub lines : Bytes → List Bytes
lines [] = []
lines (b ∷ bs) = let r = lines bs in cond (eqb b line_feed) ([] ∷ r) (begun b r)

-- ---- parts of a line
-- what follows these bytes, if the text begins with them
unfoldable pub after : Bytes → Bytes → Option Bytes
after [] t = some t
after (w ∷ ws) [] = none
after (w ∷ ws) (b ∷ bs) = elim (eqb w b) [ true ↦ after ws bs | false ↦ none ]

-- a number: no digit, one that is too large, or the number and what follows it
pub data Number : Type 0 where
  absent large : Number
  read : ℕ → Bytes → Number

unfoldable pub is_digit : ℕ → Bool
is_digit b = between (digit 0) (digit 9) b

-- on from the digits that say a
unfoldable pub number_from : (most a : ℕ) → Bytes → Number
number_from m a [] = read a []
number_from m a (b ∷ bs) = elim (is_digit b) [
  | false ↦ read a (b ∷ bs)
  | true ↦ elim (leb (10 * a + (b - digit 0)) m) [ true ↦ number_from m (10 * a + (b - digit 0)) bs | false ↦ large ]
]

unfoldable pub number : (most : ℕ) → Bytes → Number
number m [] = absent
number m (b ∷ bs) = elim (is_digit b) [ true ↦ number_from m 0 (b ∷ bs) | false ↦ absent ]

-- blanks, two by two, on from level l
pub data Indented : Type 0 where
  odd : Indented
  level : ℕ → Bytes → Indented

unfoldable pub indented : (l : ℕ) → Bytes → Indented
indented l [] = level l []
indented l (a ∷ []) = cond (eqb a space) odd (level l (a ∷ []))
indented l (a ∷ b ∷ bs) = elim (eqb a space) [
  | false ↦ level l (a ∷ b ∷ bs)
  | true ↦ elim (eqb b space) [ true ↦ indented (suc l) bs | false ↦ odd ]
]

-- the bytes before a quote that ends the line
unfoldable pub closed : Bytes → Option Bytes
closed [] = none
closed (b ∷ []) = cond (eqb b quote) (some []) none
closed (b ∷ c ∷ bs) = elim (closed (c ∷ bs)) [ none ↦ none | some t ↦ some (b ∷ t) ]

-- the end of a word: nothing, or a blank
unfoldable pub parted : Bytes → Bool
parted [] = true
parted (b ∷ bs) = eqb b space

-- ---- a cell's line: not understood, or the cell's level and the cell
pub data Line : Type 0 where
  wrong : Fault → Line
  cell : (level : ℕ) → Item → Line

unfoldable pub or_usual : ℕ → Option ℕ → ℕ
or_usual u none = u
or_usual u (some v) = v

-- a word and its number, which may be left out; then the rest of the line
unfoldable pub numbered : Number → (Option ℕ → Bytes → Line) → Line
numbered absent rest = wrong UnknownField
numbered large rest = wrong LargeNumber
numbered (read n t) rest = rest (some n) t

unfoldable pub optional : (word : Bytes) (most : ℕ) → (Option ℕ → Bytes → Line) → Bytes → Line
optional w m rest t = elim (after w t) [ none ↦ rest none t | some s ↦ numbered (number m s) rest ]

-- a label, which may be left out, and the end of the line
unfoldable pub labelled : (Bytes → Line) → Bytes → Line
labelled rest [] = rest []
labelled rest (b ∷ bs) = elim (after label_word (b ∷ bs)) [
  | none ↦ wrong UnknownField
  | some s ↦ elim (closed s) [ none ↦ wrong OpenLabel | some t ↦ rest t ]
]

-- cell c at a level, under those whose levels were seen: its parent is a lower cell, or none if it is the first (question 6), and one level up
unfoldable pub placed : (c : ℕ) (seen : List ℕ) (level : ℕ) → Item → Line
placed c seen l i =
    cond (lower c i.cell.parent && eqb l (level_under seen i.cell.parent)) (cell l i) (wrong Misplaced)

module _ (c : ℕ) (seen : List ℕ) (l : ℕ) where
  unfoldable pub told : (kind : ℕ) (width depth rank under : Option ℕ) (text : Bytes) → Line
  told k w d q u t =
      placed c seen l
      (record {
        cell = record { parent = or_usual (nearest l seen) u; kind = k; width = or_usual (natural k t) w; depth = or_usual 1 d; rank = or_usual 0 q };
        text = t;
      })

  unfoldable pub fields_read : (kind : ℕ) → Bytes → Line
  fields_read k =
      optional width_word most_pair
      (λ w. optional depth_word most_byte
      (λ d. optional rank_word most_byte (λ q. optional under_word most_byte (λ u. labelled (told k w d q u)))))

  -- the first of these kinds whose word the text begins with
  unfoldable pub named : (kinds : List ℕ) → Bytes → Line
  named [] t = wrong UnknownWord
  named (k ∷ ks) t = elim (after (word k) t) [
    | none ↦ named ks t
    | some s ↦ elim (parted s) [ true ↦ fields_read k s | false ↦ named ks t ]
  ]

abbrev pub kinds : List ℕ
kinds = 1 ∷ 2 ∷ 3 ∷ 4 ∷ 5 ∷ []

-- a line that can be read at all
unfoldable pub clear : Bytes → Option Fault
clear b = elim (every (between first_letter last_letter) b) [
  | false ↦ some StrangeByte
  | true ↦ elim (leb (length b) most_line) [ true ↦ none | false ↦ some LongLine ]
]

unfoldable pub line : (c : ℕ) (seen : List ℕ) → Bytes → Line
line c seen b = elim (clear b) [
  | some f ↦ wrong f
  | none ↦ elim (indented 0 b) [ odd ↦ wrong OddBlanks | level l t ↦ named c seen l kinds t ]
]

-- ---- the cells, from cell c on
pub data Cells : Type 0 where
  faulty : (line : ℕ) → Fault → Cells
  items : List Item → Cells

unfoldable pub with_cell : Item → Cells → Cells
with_cell i (faulty n f) = faulty n f
with_cell i (items is) = items (i ∷ is)

unfoldable pub cells : (c : ℕ) (seen : List ℕ) → List Bytes → Cells
cells c seen [] = items []
cells c seen (b ∷ bs) = elim (ltb c most_cells) [
  | false ↦ faulty (c + 2) ManyCells
  | true ↦ elim (line c seen b) [ wrong f ↦ faulty (c + 2) f | cell l i ↦ with_cell i (cells (suc c) (seen ++ (l ∷ [])) bs) ]
]

-- ---- the first line
pub data First : Type 0 where
  no_first : Fault → First
  allowed : ℕ → First

unfoldable pub all_read : Number → First
all_read absent = no_first NoAllowance
all_read large = no_first LargeNumber
all_read (read n []) = allowed n
all_read (read n (b ∷ bs)) = no_first NoAllowance

unfoldable pub first : Bytes → First
first b = elim (clear b) [
  | some f ↦ no_first f
  | none ↦ elim (after allowance_word b) [ none ↦ no_first NoAllowance | some s ↦ all_read (number most_allowance s) ]
]

-- ---- THE meaning of a text
pub data Understood : Type 0 where
  fault : (line : ℕ) → Fault → Understood
  plan : Content → Understood

unfoldable pub with_allowance : ℕ → Cells → Understood
with_allowance al (faulty n f) = fault n f
with_allowance al (items is) = plan (record { items = is; allowance = al })

unfoldable pub by_lines : List Bytes → Understood
by_lines [] = fault 1 EmptyText
by_lines (b ∷ bs) = elim (first b) [ no_first f ↦ fault 1 f | allowed al ↦ with_allowance al (cells 0 [] bs) ]

unfoldable pub understood : Bytes → Understood
understood t = by_lines (lines t)
