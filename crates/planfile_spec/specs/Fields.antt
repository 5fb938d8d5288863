-- Document 01, "File", and document 02, E7 and E13: where the numbers of a record and of the trailer stand in a file, each place named once, for reader, writer and mender. Assumes nothing.
use Rattle.std.specs.Prelude.{List, ℕ, ◌+◌, ◌*◌, ◌/◌, ◌%◌, get_or, set}
use Rattle.plan.specs.declared.Record.{Record}
use Rattle.plan.specs.declared.forms.Form.{Form}
use Rattle.plan.specs.declared.forms.Form.TheVariants.{Old, Wide}
use Rattle.planfile_spec.specs.declared.Trailer.{Trailer}

-- ---- places
-- numbers of two bytes have the low byte first
unfoldable pub pair : List ℕ → ℕ → ℕ
pair f at = get_or f at 0 + 256 * get_or f (at + 1) 0

unfoldable pub set_pair : List ℕ → ℕ → ℕ → List ℕ
set_pair f at v = set (set f at (v % 256)) (at + 1) (v / 256)

-- a number stands in one byte or in two, counted from the first of its record or trailer; or nowhere, and is then 0
pub data Place : Type 0 where
  nowhere : Place
  byte two : ℕ → Place

-- the number at a place, from `at` on
unfoldable pub number_at : Place → List ℕ → (at : ℕ) → ℕ
number_at nowhere f at = 0
number_at (byte k) f at = get_or f (at + k) 0
number_at (two k) f at = pair f (at + k)

-- the bytes with another number there
unfoldable pub set_number : Place → List ℕ → (at value : ℕ) → List ℕ
set_number nowhere f at v = f
set_number (byte k) f at v = set f (at + k) v
set_number (two k) f at v = set_pair f (at + k) v

-- ---- the fields of a record. Old form: bytes 0-1 father, 2 kind, 3 W, 4 D, 5 label length, 6-7 label start;
-- wide form: 0-1 father, 2 kind, 3 D, 4-5 W, 6 label length, 7 rank (document 02, E13; the old form has 0), 8-9 label start
unfoldable pub parent_place : Form → Place
parent_place Old = two 0
parent_place Wide = two 0

unfoldable pub kind_place : Form → Place
kind_place Old = byte 2
kind_place Wide = byte 2

unfoldable pub width_place : Form → Place
width_place Old = byte 3
width_place Wide = two 4

unfoldable pub depth_place : Form → Place
depth_place Old = byte 4
depth_place Wide = byte 3

unfoldable pub length_place : Form → Place
length_place Old = byte 5
length_place Wide = byte 6

unfoldable pub rank_place : Form → Place
rank_place Old = nowhere
rank_place Wide = byte 7

unfoldable pub start_place : Form → Place
start_place Old = two 6
start_place Wide = two 8

-- the bytes with a record's fields, from `at` on
unfoldable pub set_record : Form → List ℕ → (at : ℕ) → Record → List ℕ
set_record form f at r =
    set_number (start_place form)
    (set_number (rank_place form)
    (set_number (length_place form)
    (set_number (depth_place form) (set_number (width_place form) (set_number (kind_place form) (set_number (parent_place form) f at r.parent) at r.kind) at r.width) at r.depth)
    at r.label_length)
    at r.rank)
    at r.label_start

-- ---- the trailer: bytes 0-1 the place where the records begin, 2-3 n, 4-5 the allowance, 6-7 the mark
unfoldable pub begin_place : Place
begin_place = two 0

unfoldable pub count_place : Place
count_place = two 2

unfoldable pub allowance_place : Place
allowance_place = two 4

unfoldable pub mark_place : Place
mark_place = two 6

unfoldable pub set_trailer : List ℕ → (at : ℕ) → Trailer → List ℕ
set_trailer f at t = set_number mark_place (set_number allowance_place (set_number count_place (set_number begin_place f at t.begin) at t.count) at t.allowance) at t.mark
