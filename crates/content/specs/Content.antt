-- Document 02, E4 and E13: THE CONTENT OF A PLAN, of each cell its father, kind, width, depth, rank and label text, in order, and the allowance. Where a label stands, and in which form of file,
-- is no part of it. One definition, of a table with its label bytes and so of a file. Assumes nothing.
use Rattle.std.specs.Prelude.{List, map, ℕ, take, drop}
use Rattle.plan.specs.Plan.{Cell}
use Rattle.plan.specs.Records.{bare}
use Rattle.plan.specs.declared.Record.{Record}
use Rattle.planfile_spec.specs.Format.{trailer_of, records_of}

pub record Item : Type 0 where
  pub cell : Cell
  pub text : List ℕ

pub record Content : Type 0 where
  pub items : List Item
  pub allowance : ℕ

-- the label of a record that points into these bytes
unfoldable pub text_of : List ℕ → Record → List ℕ
text_of letters r = take r.label_length (drop r.label_start letters)

unfoldable pub item_of : List ℕ → Record → Item
item_of letters r = record { cell = bare r; text = text_of letters r }

-- of a table, its label bytes and an allowance
unfoldable pub content : List Record → (letters : List ℕ) → (allowance : ℕ) → Content
content rs letters al = record { items = map (item_of letters) rs; allowance = al }

-- the label bytes of a file
unfoldable pub letters_of : List ℕ → List ℕ
letters_of f = take (trailer_of f).begin f

-- of a file
unfoldable pub file_content : List ℕ → Content
file_content f = content (records_of f) (letters_of f) (trailer_of f).allowance
