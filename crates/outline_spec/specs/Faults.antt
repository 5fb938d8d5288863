-- WHAT IS SAID OF A FAULT: its number, and the line that is printed, with what to do. Assumes nothing.
use Rattle.std.specs.Prelude.{[], ◌∷◌, ◌++◌, ℕ, zero, suc}
use Rattle.listing.specs.Printed.{Bytes, line_feed, decimal}
use Rattle.outline_spec.specs.Text.{text}
use Rattle.outline_spec.specs.declared.Fault.{Fault}
use Rattle.outline_spec.specs.declared.Fault.TheVariants.{EmptyText, StrangeByte, LongLine, ManyCells, NoAllowance, OddBlanks, UnknownWord, UnknownField, LargeNumber, OpenLabel, Misplaced}

-- the number, as in the table of docs/OUTLINE.md
unfoldable pub fault_number : Fault → ℕ
fault_number EmptyText = 1
fault_number StrangeByte = 2
fault_number LongLine = 3
fault_number ManyCells = 4
fault_number NoAllowance = 5
fault_number OddBlanks = 6
fault_number UnknownWord = 7
fault_number UnknownField = 8
fault_number LargeNumber = 9
fault_number OpenLabel = 10
fault_number Misplaced = 11

abbrev pub most_fault : ℕ
most_fault = 11

-- and the fault of a number
unfoldable pub fault_of : ℕ → Fault
fault_of zero = EmptyText
fault_of (suc zero) = EmptyText
fault_of (suc (suc zero)) = StrangeByte
fault_of (suc (suc (suc zero))) = LongLine
fault_of (suc (suc (suc (suc zero)))) = ManyCells
fault_of (suc (suc (suc (suc (suc zero))))) = NoAllowance
fault_of (suc (suc (suc (suc (suc (suc zero)))))) = OddBlanks
fault_of (suc (suc (suc (suc (suc (suc (suc zero))))))) = UnknownWord
fault_of (suc (suc (suc (suc (suc (suc (suc (suc zero)))))))) = UnknownField
fault_of (suc (suc (suc (suc (suc (suc (suc (suc (suc zero))))))))) = LargeNumber
fault_of (suc (suc (suc (suc (suc (suc (suc (suc (suc (suc zero)))))))))) = OpenLabel
fault_of (suc (suc (suc (suc (suc (suc (suc (suc (suc (suc (suc k))))))))))) = Misplaced

-- what to do
unfoldable pub advice : Fault → Bytes
advice EmptyText = text "the text is empty: begin with a line such as allowance 0"
advice StrangeByte = text "a tab or another byte that is not printable: use blanks, and letters, digits and signs of ASCII"
advice LongLine = text "more than 255 bytes: shorten the line"
advice ManyCells = text "more than 256 cells: leave out this line and those below it"
advice NoAllowance = text "the first line is not the allowance: write the word allowance, a blank and a number"
advice OddBlanks = text "an odd number of blanks before the word: use two for each level"
advice UnknownWord = text "the line does not begin with step, run, repeat, choice or wait: use one of them, and leave no line empty"
advice UnknownField = text "what follows the word is not understood: write width, depth, rank, under, a number each, in this order, then the label in quotes"
advice LargeNumber = text "a number is too large: allowance and width go up to 65535, depth, rank and under up to 255"
advice OpenLabel = text "the label has no quote at its end: end the line with one"
advice Misplaced = text "the line stands in no cell's place: put it two blanks right of the cell it is under, and only the first at the margin"

-- the line, as in `line 3: an odd number of blanks before the word: use two for each level`
unfoldable pub fault_line : (line : ℕ) → Fault → Bytes
fault_line n f = text "line " ++ (decimal n ++ (text ": " ++ (advice f ++ (line_feed ∷ []))))
