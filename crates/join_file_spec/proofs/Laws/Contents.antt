-- The records of two plans joined, the second's labels behind the first's: their content is THE joined content. Nothing that a reader must believe stands here. Assumes nothing.
use Rattle.std.specs.Prelude.{◌≡◌, refl, List, [], ◌∷◌, ◌++◌, map, true, ℕ, ◌+◌, ◌≤◌, T, length, take, drop}
use Rattle.std.proofs.Common.{ap, ◌∙◌, arith, length-drop}
use Rattle.std.proofs.lemmas.List.{map-append, length-map, take-append-le, drop-append-le}
use Rattle.std.proofs.Math.Seq.{drop-append-add}
use Rattle.plan.specs.Plan.{Cell, Table}
use Rattle.plan.specs.Records.{bare, cells_of}
use Rattle.plan.specs.declared.Record.{Record}
use Rattle.content.specs.Content.{Item, text_of, item_of, content}
use Rattle.graft.specs.Joined.{raised, hung, hung_behind, cell_under, record_under, joined, joined_records}
use Rattle.join_file_spec.specs.Contents.{item_under, joined_items, joined_content}

abbrev pub father : Record → ℕ
father r = r.parent

abbrev pub item_father : Item → ℕ
item_father i = i.cell.parent

-- the record with its label so many bytes on
unfoldable pub moved : ℕ → Record → Record
moved n r =
    record { parent = r.parent; kind = r.kind; width = r.width; depth = r.depth; rank = r.rank; label_length = r.label_length; label_start = n + r.label_start }

-- records whose labels stand in the first n bytes
abbrev pub AllInside : ℕ → List Record → Type 0
AllInside n [] = T true
AllInside n (r ∷ rs) = (r.label_start + r.label_length ≤ n) × AllInside n rs

-- ---- the first's labels stand where they stood
pub text-first : (ls ms : List ℕ) (r : Record) → r.label_start + r.label_length ≤ length ls → text_of (ls ++ ms) r ≡ text_of ls r
unfolding text_of
text-first ls ms r h =
    ap (take r.label_length) (drop-append-le r.label_start ls ms (omega arith))
    ∙ take-append-le r.label_length (drop r.label_start ls) ms (rw (length-drop r.label_start ls) (omega arith))

items-first : (ls ms : List ℕ) (rs : List Record) → AllInside (length ls) rs → map (item_of (ls ++ ms)) rs ≡ map (item_of ls) rs
unfolding item_of
items-first ls ms [] h = refl
items-first ls ms (r ∷ rs) h = λ i. record { cell = bare r; text = text-first ls ms r h.0 i } ∷ items-first ls ms rs h.1 i

-- ---- the second's so many bytes on
text-second : (ls ms : List ℕ) (r : Record) (p : ℕ) → text_of (ls ++ ms) (record_under p (moved (length ls) r)) ≡ text_of ms r
unfolding text_of record_under moved
text-second ls ms r p = ap (take r.label_length) (drop-append-add ls ms r.label_start)

item-second : (ls ms : List ℕ) (r : Record) (p : ℕ) → item_of (ls ++ ms) (record_under p (moved (length ls) r)) ≡ item_under p (item_of ms r)
unfolding item_of item_under bare record_under moved cell_under
item-second ls ms r p = λ i. record { cell = record { parent = p; kind = r.kind; width = r.width; depth = r.depth; rank = r.rank }; text = text-second ls ms r p i }

rest-second : (n : ℕ) (ls ms : List ℕ) (us : List Record) → map (item_of (ls ++ ms)) (map (raised father record_under n) (map (moved (length ls)) us)) ≡ map (raised item_father item_under n) (map (item_of ms) us)
unfolding raised moved item_of bare
rest-second n ls ms [] = refl
rest-second n ls ms (r ∷ us) = λ i. item-second ls ms r (n + r.parent) i ∷ rest-second n ls ms us i

hung-second : (n c : ℕ) (ls ms : List ℕ) (us : List Record) → map (item_of (ls ++ ms)) (hung father record_under n c (map (moved (length ls)) us)) ≡ hung item_father item_under n c (map (item_of ms) us)
unfolding hung
hung-second n c ls ms [] = refl
hung-second n c ls ms (r ∷ us) = λ i. item-second ls ms r c i ∷ rest-second n ls ms us i

-- ---- THE law
pub joined_is : (rs us : List Record) (ls ms : List ℕ) (al bl c : ℕ) → AllInside (length ls) rs → content (joined_records rs (map (moved (length ls)) us) c) (ls ++ ms) al ≡ joined_content (content rs ls al) (content us ms bl) c
unfolding content joined_content joined_items joined_records hung_behind
joined_is rs us ls ms al bl c h =
    ap (λ (x : List Item). record { items = x; allowance = al })
    (map-append (item_of (ls ++ ms)) rs _ ∙ rw (items-first ls ms rs h, hung-second (length rs) c ls ms us, length-map rs (item_of ls)))

-- ---- the table does not hang on the labels
pub moved-cells : (n : ℕ) (us : List Record) → cells_of (map (moved n) us) ≡ cells_of us
unfolding cells_of moved bare
moved-cells n [] = refl
moved-cells n (r ∷ us) = ap (λ (x : Table). bare r ∷ x) (moved-cells n us)

abbrev pub cells_in : List Item → Table
cells_in is = map (λ (i : Item). i.cell) is

hung-cells : (n c : ℕ) (b : List Item) → cells_in (hung item_father item_under n c b) ≡ hung (λ (x : Cell). x.parent) cell_under n c (cells_in b)
unfolding hung raised item_under
hung-cells n c [] = refl
hung-cells n c (x ∷ b) = ap (λ (l : Table). cell_under c x.cell ∷ l) (rest b)
  where
    rest : (b : List Item) → cells_in (map (raised item_father item_under n) b) ≡ map (raised (λ (x : Cell). x.parent) cell_under n) (cells_in b)
    rest [] = refl
    rest (y ∷ b) = ap (λ (l : Table). cell_under (n + y.cell.parent) y.cell ∷ l) (rest b)

-- the table of joined items is THE joined table
pub items-table : (a b : List Item) (c : ℕ) → cells_in (joined_items a b c) ≡ joined (cells_in a) (cells_in b) c
unfolding joined_items joined hung_behind
items-table a b c = map-append (λ (i : Item). i.cell) a _ ∙ rw (hung-cells (length a) c b, length-map a (λ (i : Item). i.cell))

pub items-cells : (letters : List ℕ) (rs : List Record) → cells_in (map (item_of letters) rs) ≡ cells_of rs
unfolding item_of cells_of
items-cells letters [] = refl
items-cells letters (r ∷ rs) = ap (λ (x : Table). bare r ∷ x) (items-cells letters rs)
