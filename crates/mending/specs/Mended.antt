-- Document 02, E11: THE MENDED FILE, byte by byte, and the lines that tell it. Every definition computes. Assumes nothing.
use Rattle.std.specs.Prelude.{◌≡◌, List, [], ◌∷◌, map, Bool, ◌&&◌, not, cond, ℕ, ◌<◌, eqb, length, get_or}
use Rattle.plan.specs.Limits.{between, most_cells}
use Rattle.plan.specs.Lists.{from, keep}
use Rattle.plan.specs.Questions.{to_fill, nothing, read, refusal}
use Rattle.plan.specs.declared.Refusal.{Refusal}
use Rattle.planfile_spec.specs.Format.{trailer_of, form, place, entry, file_given}
use Rattle.mending_lines.specs.Lines.{Alteration, alteration}
use Rattle.mending_boxes.specs.Boxes.{changed}
use Rattle.mending_boxes.specs.Raised.{mend_records, Off}

-- ---- the bytes
-- the refusal that Read would give a file
abbrev pub would_get : List ℕ → Refusal
would_get f = refusal read (file_given f (to_fill most_cells ∷ []) nothing)

-- "a file refused by 2 to 4 is not altered": so many of its cells are looked at
unfoldable pub looked_at : List ℕ → ℕ
looked_at f = cond (between 2 4 (would_get f).number) 0 (trailer_of f).count

-- THE mended file
unfoldable pub mended : List ℕ → List ℕ
mended f = mend_records (form f) (trailer_of f).begin (entry f) f (looked_at f)

-- ---- the lines
-- the cells altered, "in cell order"
unfoldable pub altered_cells : List ℕ → List ℕ
altered_cells f = keep (λ c. changed (entry f c)) (from 0 (looked_at f))

unfoldable pub altered : List ℕ → List Alteration
altered f = map (λ c. alteration c (entry f c)) (altered_cells f)

-- ---- another file g that "differs only in width and depth bytes" from f
pub record OnlyBoxes (f g : List ℕ) : Type 0 where
  pub as_long : length g ≡ length f
  pub elsewhere : (i : ℕ) → ((c : ℕ) → c < (trailer_of f).count → Off (form f) (place f c) i) → get_or g i 0 ≡ get_or f i 0

-- the cells whose box g has altered
unfoldable pub differs : (f g : List ℕ) → ℕ → Bool
differs f g c = not (eqb (entry g c).width (entry f c).width && eqb (entry g c).depth (entry f c).depth)

unfoldable pub altered_by : (f g : List ℕ) → List ℕ
altered_by f g = keep (differs f g) (from 0 (trailer_of f).count)
