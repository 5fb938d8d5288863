-- Lines put together: for the code. Assumes nothing.
use Rattle.std.specs.Prelude.{◌≡◌, refl, List, [], ◌∷◌, ◌++◌, ℕ, Result, Ok, Err}
use Rattle.listing.specs.Printed.{Bytes, space, line_feed, decimal}
use Rattle.listing.specs.Put.{Put}
use Rattle.listing.proofs.Laws.Put.{then}
use Rattle.drawing_spec.specs.declared.Fault.TheVariants.{NoNumber, NoCell, Twice, Far, Missing, Long}
use Rattle.mark_spec.specs.declared.Marked.TheVariants.{Full, Wide, Broken}
use Rattle.drawing_spec.specs.declared.DrawError.{DrawError}
use Rattle.drawing_spec.specs.declared.DrawError.TheVariants.{Wrong, Refused}
use Rattle.plan.specs.declared.Breach.{Breach}
use Rattle.plan.specs.declared.Measures.{Measures}
use Rattle.plan.specs.declared.Refusal.{Refusal}
use Rattle.drawing_spec.specs.declared.Fault.{Fault}
use Rattle.mark_spec.specs.declared.Marked.{Marked}
use Rattle.summary.specs.Summary.{named_line}
use Rattle.mark_text.specs.Text.{full_part, wide_part, broken_part, line_part, numbers_part, no_cell_part, cell_part, twice_part, far_part, missing_cell_part, missing_part, long_part, drawings_part, broken_count_part, refused_part, unread_part, pair, triple, marked_line, fault_line, unread_line, outcome_line, more, mark_kind, outcome_kind, more_if, counted, first_counts, last_counts, counts_line}
use Rattle.mark_text.specs.declared.Counts.{Counts}

pub pair_put : {a b c d : List ℕ} {i j k l : ℕ} (m n : ℕ) → Put a i (decimal m) b j → Put b j (space ∷ []) c k → Put c k (decimal n) d l → Put a i (pair m n) d l
unfolding pair
pair_put m n p q r = then (then p q) r

pub triple-put : {a b c d : List ℕ} {i j k l : ℕ} (m n o : ℕ) → Put a i (pair m n) b j → Put b j (space ∷ []) c k → Put c k (decimal o) d l → Put a i (triple m n o) d l
unfolding triple
triple-put m n o p q r = then (then p q) r

-- a name, a word, some numbers and the end of the line
pub line-put : {a b c d e : List ℕ} {i j k l m : ℕ} (name part numbers : Bytes) → Put a i name b j → Put b j part c k → Put c k numbers d l → Put d l (line_feed ∷ []) e m → Put a i (((name ++ part) ++ numbers) ++ (line_feed ∷ [])) e m
line-put name part numbers p q r s = then (then (then p q) r) s

pub fault-put : {a b c d e : List ℕ} {i j k l m : ℕ} (name : Bytes) (n : ℕ) (what : Bytes) → Put a i name b j → Put b j line_part c k → Put c k (decimal n) d l → Put d l what e m → Put a i (fault_line name n what) e m
unfolding fault_line
fault-put name n what p q r s = then (then (then p q) r) s

module _ {a b c d e : List ℕ} {j k l m : ℕ} (name : Bytes) where
  pub full_put : (n : Measures) → Put a 0 name b j → Put b j full_part c k → Put c k (pair n.width n.rows) d l → Put d l (line_feed ∷ []) e m → Put a 0 (marked_line name (Ok (Full n))) e m
  unfolding marked_line
  full_put n p q r s = line-put name full_part (pair n.width n.rows) p q r s

  pub wide-put : (n : Measures) (h : ℕ) → Put a 0 name b j → Put b j wide_part c k → Put c k (triple n.width h n.rows) d l → Put d l (line_feed ∷ []) e m → Put a 0 (marked_line name (Ok (Wide n h))) e m
  unfolding marked_line
  wide-put n h p q r s = line-put name wide_part (triple n.width h n.rows) p q r s

  pub broken-put : (o : Breach) → Put a 0 name b j → Put b j broken_part c k → Put c k (triple o.rule o.a o.b) d l → Put d l (line_feed ∷ []) e m → Put a 0 (marked_line name (Ok (Broken o))) e m
  unfolding marked_line
  broken-put o p q r s = line-put name broken_part (triple o.rule o.a o.b) p q r s

  pub missing_put : (x : ℕ) → Put a 0 name b j → Put b j missing_cell_part c k → Put c k (decimal x) d l → Put d l missing_part e m → Put a 0 (unread_line name (Missing x)) e m
  unfolding unread_line
  missing_put x p q r s = then (then (then p q) r) s

pub twice_put : {a b c d : List ℕ} {j k l : ℕ} (name : Bytes) (n x : ℕ) → Put a 0 (fault_line name n cell_part) b j → Put b j (decimal x) c k → Put c k twice_part d l → Put a 0 (unread_line name (Twice n x)) d l
unfolding unread_line
twice_put name n x p q r = then (then p q) r

-- by the variant that it is
pub marked-is : {a b : List ℕ} {r : ℕ} (name : Bytes) (o : Result Marked Refusal) (m n : Marked) → o ≡ Ok m → m ≡ n → Put a 0 (marked_line name (Ok n)) b r → Put a 0 (marked_line name o) b r
marked-is name o m n e f p = rw (e, f) p

pub marked-refused : {a b : List ℕ} {r : ℕ} (name : Bytes) (o : Result Marked Refusal) (k : Refusal) → o ≡ Err k → Put a 0 (named_line name k.number k.cell) b r → Put a 0 (marked_line name o) b r
unfolding marked_line
marked-refused name o k e p = rw e p

pub unread-is : {a b : List ℕ} {r : ℕ} (name : Bytes) (f g : Fault) → f ≡ g → Put a 0 (unread_line name g) b r → Put a 0 (unread_line name f) b r
unread-is name f g e p = rw e p

module _ {a b : List ℕ} {r : ℕ} (name : Bytes) where
  pub numbers-put : (n : ℕ) → Put a 0 (fault_line name n numbers_part) b r → Put a 0 (unread_line name (NoNumber n)) b r
  unfolding unread_line
  numbers-put n p = p

  pub no-cell-put : (n : ℕ) → Put a 0 (fault_line name n no_cell_part) b r → Put a 0 (unread_line name (NoCell n)) b r
  unfolding unread_line
  no-cell-put n p = p

  pub far-put : (n : ℕ) → Put a 0 (fault_line name n far_part) b r → Put a 0 (unread_line name (Far n)) b r
  unfolding unread_line
  far-put n p = p

  pub long-put : Put a 0 (name ++ long_part) b r → Put a 0 (unread_line name Long) b r
  unfolding unread_line
  long-put p = p

  module _ (o : Result Marked DrawError) where
    pub mark-put : (m : Marked) → o ≡ Ok m → Put a 0 (marked_line name (Ok m)) b r → Put a 0 (outcome_line name o) b r
    unfolding outcome_line
    mark-put m e p = rw e p

    pub unread-put : (e : DrawError) (f : Fault) → o ≡ Err e → e ≡ Wrong f → Put a 0 (unread_line name f) b r → Put a 0 (outcome_line name o) b r
    unfolding outcome_line
    unread-put e f p q t = rw (p, q) t

    pub refused-put : (e : DrawError) (k : Refusal) → o ≡ Err e → e ≡ Refused k → Put a 0 (marked_line name (Err k)) b r → Put a 0 (outcome_line name o) b r
    unfolding outcome_line
    refused-put e k p q t = rw (p, q) t

-- ---- one drawing more
module _ (n : Counts) (o : Result Marked DrawError) where
  module _ (m : Marked) (e : o ≡ Ok m) where
    pub counted_full : (x : Measures) → m ≡ Full x → (d f : ℕ) → d ≡ more n.drawings → f ≡ more n.full
        → record { drawings = d; full = f; wide = n.wide; broken = n.broken; refused = n.refused; unread = n.unread } ≡ counted n o
    unfolding more_if outcome_kind mark_kind counted
    counted_full x q d f h k = rw (e, q, h, k) refl

    pub counted_wide : (x : Measures) (l : ℕ) → m ≡ Wide x l → (d f : ℕ) → d ≡ more n.drawings → f ≡ more n.wide
        → record { drawings = d; full = n.full; wide = f; broken = n.broken; refused = n.refused; unread = n.unread } ≡ counted n o
    unfolding more_if outcome_kind mark_kind counted
    counted_wide x l q d f h k = rw (e, q, h, k) refl

    pub counted_broken : (x : Breach) → m ≡ Broken x → (d f : ℕ) → d ≡ more n.drawings → f ≡ more n.broken
        → record { drawings = d; full = n.full; wide = n.wide; broken = f; refused = n.refused; unread = n.unread } ≡ counted n o
    unfolding more_if outcome_kind mark_kind counted
    counted_broken x q d f h k = rw (e, q, h, k) refl

  module _ (m : DrawError) (e : o ≡ Err m) where
    pub counted_refused : (x : Refusal) → m ≡ Refused x → (d f : ℕ) → d ≡ more n.drawings → f ≡ more n.refused
        → record { drawings = d; full = n.full; wide = n.wide; broken = n.broken; refused = f; unread = n.unread } ≡ counted n o
    unfolding more_if outcome_kind mark_kind counted
    counted_refused x q d f h k = rw (e, q, h, k) refl

    pub counted_unread : (x : Fault) → m ≡ Wrong x → (d f : ℕ) → d ≡ more n.drawings → f ≡ more n.unread
        → record { drawings = d; full = n.full; wide = n.wide; broken = n.broken; refused = n.refused; unread = f } ≡ counted n o
    unfolding more_if outcome_kind mark_kind counted
    counted_unread x q d f h k = rw (e, q, h, k) refl

pub first-put : {a b c d : List ℕ} {j k l : ℕ} (n : Counts) → Put a 0 (drawings_part ++ decimal n.drawings) b j → Put b j (full_part ++ decimal n.full) c k → Put c k (wide_part ++ decimal n.wide) d l
    → Put a 0 (first_counts n) d l
unfolding first_counts
first-put n p q r = then (then p q) r

pub last_put : {a b c d e : List ℕ} {i j k l m : ℕ} (n : Counts) → Put a i (broken_count_part ++ decimal n.broken) b j → Put b j (refused_part ++ decimal n.refused) c k → Put c k (unread_part ++ decimal n.unread) d l
    → Put d l (line_feed ∷ []) e m → Put a i (last_counts n) e m
unfolding last_counts
last_put n p q r s = then (then (then p q) r) s

pub counts_put : {a b c : List ℕ} {j k : ℕ} (n : Counts) → Put a 0 (first_counts n) b j → Put b j (last_counts n) c k → Put a 0 (counts_line n) c k
unfolding counts_line
counts_put n p q = then p q
