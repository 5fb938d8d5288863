-- The lines as the code writes them: one text after the other. Assumes nothing.
use Rattle.std.specs.Prelude.{◌≡◌, List, [], ◌∷◌, ◌++◌, ℕ, suc, ◌-◌, ◌≤◌, ◌<◌, ℤ, pos, negsuc, ◌-ℤ◌}
use Rattle.std.proofs.Common.{append_assoc, arith}
use Rattle.whole.proofs.Laws.Whole.{whole, diff}
use Rattle.listing.specs.Printed.{Bytes, space, line_feed, minus_sign, decimal, signed, line}
use Rattle.listing.specs.Put.{Put}
use Rattle.listing.proofs.Laws.Put.{then}
use Rattle.why_spec.specs.Links.{Link}
use Rattle.why_lines.specs.Printed.{why_word, head_line, link_line, last_line}

-- ---- a difference
signed_less : (a b : ℕ) → a < b → minus_sign ∷ decimal (b - a) ≡ signed (pos a -ℤ pos b)
unfolding signed
signed_less a b h =
    let e : pos a -ℤ pos b ≡ negsuc (b - a - 1) = omega (whole, diff (pos a) (pos b)) in
    let f : suc (b - a - 1) ≡ b - a = omega arith in
    rw (e, f)

signed-more : (a b : ℕ) → b ≤ a → decimal (a - b) ≡ signed (pos a -ℤ pos b)
unfolding signed
signed-more a b h = let e : pos a -ℤ pos b ≡ pos (a - b) = omega (whole, diff (pos a) (pos b)) in rw e

pub less_put : {l m n : List ℕ} {i j k : ℕ} (a b : ℕ) → a < b → Put l i (minus_sign ∷ []) m j → Put m j (decimal (b - a)) n k → Put l i (signed (pos a -ℤ pos b)) n k
less_put a b h p q = rw (← signed_less a b h) (then p q)

pub more-put : {l m : List ℕ} {i k : ℕ} (a b : ℕ) → b ≤ a → Put l i (decimal (a - b)) m k → Put l i (signed (pos a -ℤ pos b)) m k
more-put a b h p = rw (← signed-more a b h) p

-- ---- lines
pub head_line-is : (n al w k : ℕ) → why_word ++ (space ∷ decimal n) ++ (space ∷ decimal al) ++ (space ∷ decimal w) ++ (space ∷ decimal k) ++ (line_feed ∷ []) ≡ head_line n al w k
unfolding head_line line
head_line-is n al w k = simp append_assoc

pub link_line-is : (l : Link) (z : ℤ)
    → decimal l.from ++ (space ∷ decimal l.to) ++ (space ∷ 83 ∷ []) ++ decimal l.rule ++ (space ∷ signed l.apart) ++ (space ∷ signed z) ++ (line_feed ∷ []) ≡ link_line l z
unfolding link_line line
link_line-is l z = grouped (decimal l.from) (space ∷ decimal l.to) (space ∷ 83 ∷ []) (decimal l.rule) (space ∷ signed l.apart) (space ∷ signed z) (line_feed ∷ [])
  where
    grouped : (a b c d e f g : Bytes) → a ++ b ++ c ++ d ++ e ++ f ++ g ≡ a ++ (b ++ (c ++ (d ++ (e ++ (f ++ g)))))
    grouped a b c d e f g = simp append_assoc

pub last_line-is : (e w : ℕ) (z : ℤ) → decimal e ++ (space ∷ 87 ∷ []) ++ (space ∷ decimal w) ++ (space ∷ signed z) ++ (line_feed ∷ []) ≡ last_line e w z
unfolding last_line line
last_line-is e w z = grouped (decimal e) (space ∷ 87 ∷ []) (space ∷ decimal w) (space ∷ signed z) (line_feed ∷ [])
  where
    grouped : (a b c d e : Bytes) → a ++ b ++ c ++ d ++ e ≡ a ++ (b ++ (c ++ (d ++ e)))
    grouped a b c d e = simp append_assoc

-- ---- a text that is written, by another name
pub named : {l m s : List ℕ} (t : Bytes) {i k : ℕ} → Put l i s m k → s ≡ t → Put l i t m k
named t p e = rw e at p
