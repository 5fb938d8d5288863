-- The limits of document 01, each named once. Assumes nothing.
use Rattle.std.specs.Prelude.{Bool, ◌&&◌, ℕ, leb}

-- from low to high, both included
abbrev pub between : (low high n : ℕ) → Bool
between low high n = leb low n && leb n high

-- cells of a table (question 4)
abbrev pub most_cells : ℕ
most_cells = 256

-- W and D of a box (question 8): W in the old form of the file, and in the wide one and in tables (document 02, E7)
abbrev pub old_width : ℕ
old_width = 255

abbrev pub most_width : ℕ
most_width = 1023

abbrev pub most_depth : ℕ
most_depth = 15

-- children of a parent (question 11)
abbrev pub most_children : ℕ
most_children = 16

-- edges to the root (question 12)
abbrev pub most_level : ℕ
most_level = 31

-- the last row that a box may reach (question 13: the rows are at most one more)
abbrev pub last_row : ℕ
last_row = 255

-- the allowance (question 14)
abbrev pub most_allowance : ℕ
most_allowance = 65535

-- a coordinate, either way (question 15)
abbrev pub farthest : ℕ
farthest = 262143

-- numbers of 32 bits in Layout's scratch (question 1)
abbrev pub scratch_size : ℕ
scratch_size = 16384

-- bytes of an output for a listing (question 1): more than the longest has
abbrev pub listing_size : ℕ
listing_size = 17408

-- bytes of an output for the lines of a mended file (question 1; document 02, E11): 24 a cell, more than the longest line has
abbrev pub lines_size : ℕ
lines_size = 6144

-- bytes of a file (question 2)
abbrev pub least_file : ℕ
least_file = 16

abbrev pub most_file : ℕ
most_file = 16384

-- the file's marks, hexadecimal 53 54 and, of the wide form, 53 55, low byte first (question 3)
abbrev pub old_mark : ℕ
old_mark = 0x5453

abbrev pub wide_mark : ℕ
wide_mark = 0x5553

-- bytes of a record, in either form, and of the trailer (question 4)
abbrev pub old_size : ℕ
old_size = 8

abbrev pub wide_size : ℕ
wide_size = 10

abbrev pub trailer_size : ℕ
trailer_size = 8

-- a label's bytes (question 5) and length (question 9)
abbrev pub first_letter : ℕ
first_letter = 32

abbrev pub last_letter : ℕ
last_letter = 126

abbrev pub most_label : ℕ
most_label = 40

-- the parent of the root (question 6)
abbrev pub no_parent : ℕ
no_parent = 65535

-- document 02, E12: steps that a drill records (question 1), and its answer bytes (question 21)
abbrev pub most_steps : ℕ
most_steps = 4096

abbrev pub most_answers : ℕ
most_answers = 4096

-- numbers of 32 bits in the second scratch of a sheet that is being made (question 1; document 02, E9)
abbrev pub second_size : ℕ
second_size = 1024
