-- WORKED OUTLINES, each computed: the words; document 01's printed example and its worked sheet F; labels and fields; faults. Assumes nothing.
use Rattle.std.specs.Prelude.{◌≡◌, refl, List, [], ◌∷◌, ◌++◌, ℕ, zero, suc}
use Rattle.std.proofs.Math.Option.{Option, none, some}
use Rattle.plan.specs.Kinds.{about}
use Rattle.plan.specs.Questions as asked
use Rattle.listing.specs.Printed.{digits, decimal}
use Rattle.content.specs.Content.{Item, Content}
use Rattle.outline_spec.specs.Outline.{allowance_word, word, width_word, depth_word, rank_word, under_word, label_word, last_less, nearest, level_under, border, natural, unless, indent, field, label, fields, cell_line, cell_lines, first_line, ended, outline_lines, outline}
use Rattle.outline_spec.specs.Understood.{Understood, fault, plan, begun, lines, after, is_digit, number_from, number, indented, closed, parted, or_usual, numbered, optional, labelled, placed, told, fields_read, named, clear, line, with_cell, cells, all_read, first, with_allowance, by_lines, understood}
use Rattle.outline_spec.specs.declared.Fault.{Fault}
use Rattle.outline_spec.specs.declared.Fault.TheVariants.{EmptyText, StrangeByte, LongLine, ManyCells, NoAllowance, OddBlanks, UnknownWord, UnknownField, LargeNumber, OpenLabel, Misplaced}
use Rattle.outline_spec.specs.Faults.{advice, fault_line}
use Rattle.outline_spec.specs.Text.{text}

-- the words
pub words :
    (allowance_word ≡ text "allowance ")
    × (word 1 ≡ text "step")
    × (word 2 ≡ text "run")
    × (word 3 ≡ text "repeat")
    × (word 4 ≡ text "choice")
    × (word 5 ≡ text "wait")
    × (width_word ≡ text " width ")
    × (depth_word ≡ text " depth ")
    × (rank_word ≡ text " rank ")
    × (under_word ≡ text " under ")
    × (label_word ≡ text " \"")
unfolding text word
words = (refl, refl, refl, refl, refl, refl, refl, refl, refl, refl, refl)

-- a cell: its parent, kind, width, depth, rank and label
unfoldable pub cell : (p k w d q : ℕ) → List ℕ → Item
cell p k w d q t = record { cell = record { parent = p; kind = k; width = w; depth = d; rank = q }; text = t }

-- document 01's printed example
unfoldable pub printed : Content
printed = record { allowance = 0; items = cell 65535 2 4 1 0 (text "Up") ∷ cell 0 1 3 1 0 (text "A") ∷ cell 0 1 5 1 0 (text "Run") ∷ [] }

-- its worked sheet F at allowance 3, where cell 7 hangs under cell 5, and cell 6 stands between them
unfoldable pub sheet_f : Content
sheet_f =
    record {
      allowance = 3;
      items =
          cell 65535 2 2 1 0 []
          ∷ cell 0 2 2 1 0 []
          ∷ cell 1 1 2 1 0 []
          ∷ cell 1 1 9 1 0 []
          ∷ cell 1 2 2 1 0 []
          ∷ cell 4 2 2 1 0 []
          ∷ cell 4 1 2 1 0 []
          ∷ cell 5 1 2 1 0 []
          ∷ cell 0 2 2 1 0 []
          ∷ cell 8 2 2 1 0 []
          ∷ cell 9 2 2 1 0 []
          ∷ cell 10 1 8 1 0 []
          ∷ cell 10 1 2 1 0 []
          ∷ [];
    }

-- widths that are not the label's, a depth, a rank; labels that have blanks at their ends, a quote, or look like fields
unfoldable pub odd_labels : Content
odd_labels =
    record {
      allowance = 65535;
      items = cell 65535 4 1023 15 255 (text " a \"b\" ") ∷ cell 0 5 16 2 1 (text "under 1 \"") ∷ cell 0 1 3 1 7 (text "\"") ∷ [];
    }

pub outlines :
    (outline printed ≡ text "allowance 0\nrun \"Up\"\n  step \"A\"\n  step \"Run\"\n")
    × (outline sheet_f
    ≡ text "allowance 3\nrun\n  run\n    step\n    step width 9\n    run\n      run\n      step\n        step under 5\n  run\n    run\n      run\n        step width 8\n        step\n")
    × (outline odd_labels ≡ text "allowance 65535\nchoice width 1023 depth 15 rank 255 \" a \"b\" \"\n  wait width 16 depth 2 rank 1 \"under 1 \"\"\n  step rank 7 \"\"\"\n")
unfolding text cell printed sheet_f odd_labels about decimal digits word last_less nearest level_under border natural unless indent field label fields cell_line cell_lines first_line ended outline_lines outline
outlines = (refl, refl, refl)

-- the same read back; and texts that are not in the form that is written: a number with noughts before it, what could be left out, no line feed at the end
pub readings :
    (understood (text "allowance 0\nrun \"Up\"\n  step \"A\"\n  step \"Run\"\n") ≡ plan printed)
    × (understood
    (text "allowance 3\nrun\n  run\n    step\n    step width 9\n    run\n      run\n      step\n        step under 5\n  run\n    run\n      run\n        step width 8\n        step\n")
    ≡ plan sheet_f)
    × (understood (text "allowance 65535\nchoice width 1023 depth 15 rank 255 \" a \"b\" \"\n  wait width 16 depth 2 rank 1 \"under 1 \"\"\n  step rank 7 \"\"\"\n") ≡ plan odd_labels)
    × (understood (text "allowance 00\nrun width 04 depth 1 rank 0 \"Up\"\n  step under 0 \"A\"\n  step width 5 \"Run\"") ≡ plan printed)
    × (understood (text "allowance 9\nstep width 0 \"\"") ≡ plan (record { allowance = 9; items = cell 65535 1 0 1 0 [] ∷ [] }))
    × (understood (text "allowance 9\n") ≡ plan (record { allowance = 9; items = [] }))
unfolding text cell printed sheet_f odd_labels about word last_less nearest level_under border natural begun lines after is_digit number_from number indented closed parted or_usual numbered optional labelled placed told fields_read named clear line with_cell cells all_read first with_allowance by_lines understood asked.lower asked.every
readings = (refl, refl, refl, refl, refl, refl)

-- what a person gets wrong, and the line
pub faults :
    (understood [] ≡ fault 1 EmptyText)
    × (understood (text "run\n") ≡ fault 1 NoAllowance)
    × (understood (text "allowance 3 4\n") ≡ fault 1 NoAllowance)
    × (understood (text "allowance 65536\n") ≡ fault 1 LargeNumber)
    × (understood (text "allowance 0\nrun\n\tstep\n") ≡ fault 3 StrangeByte)
    × (understood (text "allowance 0\nrun\n step\n") ≡ fault 3 OddBlanks)
    × (understood (text "allowance 0\nrun\n  stop\n") ≡ fault 3 UnknownWord)
    × (understood (text "allowance 0\nrun\n\n  step\n") ≡ fault 3 UnknownWord)
    × (understood (text "allowance 0\nstepper\n") ≡ fault 2 UnknownWord)
    × (understood (text "allowance 0\nstep Fill\n") ≡ fault 2 UnknownField)
    × (understood (text "allowance 0\nstep depth 2 width 9\n") ≡ fault 2 UnknownField)
    × (understood (text "allowance 0\nstep width\n") ≡ fault 2 UnknownField)
    × (understood (text "allowance 0\nstep rank 256\n") ≡ fault 2 LargeNumber)
    × (understood (text "allowance 0\nstep \"Fill\n") ≡ fault 2 OpenLabel)
    × (understood (text "allowance 0\nstep \"\n") ≡ fault 2 OpenLabel)
    × (understood (text "allowance 0\n  step\n") ≡ fault 2 Misplaced)
    × (understood (text "allowance 0\nrun\nstep\n") ≡ fault 3 Misplaced)
    × (understood (text "allowance 0\nrun\n    step\n") ≡ fault 3 Misplaced)
    × (understood (text "allowance 0\nrun\n  step under 1\n") ≡ fault 3 Misplaced)
unfolding text cell about word last_less nearest level_under border natural begun lines after is_digit number_from number indented closed parted or_usual numbered optional labelled placed told fields_read named clear line with_cell cells all_read first with_allowance by_lines understood asked.lower asked.every
faults = (refl, refl, refl, refl, refl, refl, refl, refl, refl, refl, refl, refl, refl, refl, refl, refl, refl, refl, refl)

-- a line of 255 bytes and one of 256; 256 cells and 257
unfoldable pub blanks : ℕ → List ℕ
blanks zero = []
blanks (suc n) = 32 ∷ blanks n

unfoldable pub steps : ℕ → List ℕ
steps zero = []
steps (suc n) = text "  step\n" ++ steps n

unfoldable pub reason : Understood → Option (ℕ × Fault)
reason (fault n f) = some (n, f)
reason (plan c) = none

pub edges :
    (understood (text "allowance 0\nstep \"" ++ (blanks 248 ++ text "\"\n")) ≡ plan (record { allowance = 0; items = cell 65535 1 250 1 0 (blanks 248) ∷ [] }))
    × (understood (text "allowance 0\nstep \"" ++ (blanks 249 ++ text "\"\n")) ≡ fault 2 LongLine)
    × (reason (understood (text "allowance 0\nrun\n" ++ steps 255)) ≡ none)
    × (reason (understood (text "allowance 0\nrun\n" ++ steps 256)) ≡ some (258, ManyCells))
unfolding reason blanks steps text cell about word last_less nearest level_under border natural begun lines after is_digit number_from number indented closed parted or_usual numbered optional labelled placed told fields_read named clear line with_cell cells all_read first with_allowance by_lines understood asked.lower asked.every
edges = (refl, refl, refl, refl)

-- what is printed of a fault
pub fault-lines :
    (fault_line 3 OddBlanks ≡ text "line 3: an odd number of blanks before the word: use two for each level\n")
    × (fault_line 258 ManyCells ≡ text "line 258: more than 256 cells: leave out this line and those below it\n")
unfolding text decimal digits advice fault_line
fault-lines = (refl, refl)
