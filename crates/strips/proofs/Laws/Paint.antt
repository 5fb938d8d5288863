-- Laws of the definitions in specs/Picture.antt: how additions to a picture go together. Assumes nothing.
use Rattle.std.specs.Prelude.{◌≡◌, refl, List, Bool, true, false, ◌&&◌, ◌||◌, ℕ, ◌+◌, ◌*◌, ◌<◌, eqb, length, get_or, set}
use Rattle.std.proofs.Common.{sym, ◌∙◌, ap, arith, length-set, get_or-set_same, get_or-set_other, ext_get_or, eq-eqb, ne_eqb}
use Rattle.std.proofs.Math.Decide.{ℕ_discrete}
use Rattle.std.specs.Int.Bits.{bit_or}
use Rattle.raster.specs.Strip.{pack, byte, bytes}
use Rattle.raster.proofs.Laws.Bytes.{bytes-length, bytes-at, pack-same}
use Rattle.strips.proofs.Laws.Bits.{or_pack}
use Rattle.strips.specs.Picture.{Picture, Painted, Paints, or_at}

pub painted_same : {bs : List ℕ} {n : ℕ} {F G : Picture} → Painted bs n F → ((i j : ℕ) → i < n → j < 8 → F i j ≡ G i j) → Painted bs n G
painted_same {F = F} {G = G} p h = record { long = p.long; at = λ i l. p.at i l ∙ pack-same (F i) (G i) 8 (λ j k. h i j l k) }

-- a picture is one list of bytes
pub painted_bytes : {bs : List ℕ} {n : ℕ} (f : ℕ → Bool) (first : ℕ) → Painted bs n (λ i j. f (first + (8 * i + j))) → bs ≡ bytes f first n
painted_bytes {bs} {n} f first p =
    ext_get_or 0 bs (bytes f first n) (p.long ∙ sym (bytes-length f first n))
    (λ i h. let l : i < n = omega (arith, p.long) in p.at i l ∙ sym (bytes-at f first n i l))

or_none : (b : Bool) → b || false ≡ b
or_none true = refl
or_none false = refl

or_assoc : (a b c : Bool) → a || b || c ≡ a || (b || c)
or_assoc true b c = refl
or_assoc false b c = refl

or_full : (b : Bool) → b || true ≡ true
or_full true = refl
or_full false = refl

-- ---- how additions go together
pub paints_none : (bs : List ℕ) → Paints bs bs (λ i j. false)
paints_none bs = record { adds = λ n F p. painted_same p (λ i j h k. sym (or_none (F i j))) }

pub paints_on : {bs cs ds : List ℕ} {P Q : Picture} → Paints bs cs P → Paints cs ds Q → Paints bs ds (λ i j. P i j || Q i j)
paints_on {P = P} {Q = Q} a b =
    record { adds = λ n F p. painted_same (b.adds n _ (a.adds n F p)) (λ i j h k. or_assoc (F i j) (P i j) (Q i j)) }

pub paints_same : {bs cs : List ℕ} {P Q : Picture} → Paints bs cs P → ((i j : ℕ) → i < length bs → j < 8 → P i j ≡ Q i j) → Paints bs cs Q
paints_same {bs} {P = P} {Q = Q} a h =
    record { adds = λ n F p. painted_same (a.adds n F p) (λ i j l k. let m : i < length bs = omega (arith, p.long) in ap (λ (b : Bool). F i j || b) (h i j m k)) }

-- ---- the stores
-- the mask of g into byte i
pub paints_or : (bs : List ℕ) (i m : ℕ) (g : ℕ → Bool) → m ≡ byte g → Paints bs (or_at bs i m) (λ k j. eqb k i && g j)
unfolding or_at
paints_or bs i m g e = record { adds = λ n F p. record { long = length-set bs i _ ∙ p.long; at = at n F p } }
  where
    at : (n : ℕ) (F : Picture) → Painted bs n F → (k : ℕ) → k < n → get_or (set bs i (bit_or (get_or bs i 0) m)) k 0 ≡ byte (λ j. F k j || (eqb k i && g j))
    at n F p k h = go (ℕ_discrete k i)
      where
        go : Dec (k ≡ i) → get_or (set bs i (bit_or (get_or bs i 0) m)) k 0 ≡ byte (λ j. F k j || (eqb k i && g j))
        go (yes q) =
            let l : i < length bs = omega (arith, p.long) in
            rw (q, get_or-set_same bs i (bit_or (get_or bs i 0) m) 0 l, p.at i (omega arith), e, eq-eqb i i refl) (or_pack (F i) g 8)
        go (no q) =
            get_or-set_other bs i k _ 0 q ∙ p.at k h
            ∙ pack-same (F k) (λ j. F k j || (eqb k i && g j)) 8 (λ j l. rw (ne_eqb k i q) (sym (or_none (F k j))))

-- 255 into byte i
pub paints_full : (bs : List ℕ) (i : ℕ) → Paints bs (set bs i 255) (λ k j. eqb k i)
unfolding pack
paints_full bs i = record { adds = λ n F p. record { long = length-set bs i 255 ∙ p.long; at = at n F p } }
  where
    at : (n : ℕ) (F : Picture) → Painted bs n F → (k : ℕ) → k < n → get_or (set bs i 255) k 0 ≡ byte (λ j. F k j || eqb k i)
    at n F p k h = go (ℕ_discrete k i)
      where
        go : Dec (k ≡ i) → get_or (set bs i 255) k 0 ≡ byte (λ j. F k j || eqb k i)
        go (yes q) =
            let l : i < length bs = omega (arith, p.long) in
            rw (q, get_or-set_same bs i 255 0 l, eq-eqb i i refl) (pack-same (λ j. true) (λ j. F i j || true) 8 (λ j k. sym (or_full (F i j))))
        go (no q) =
            get_or-set_other bs i k 255 0 q ∙ p.at k h
            ∙ pack-same (F k) (λ j. F k j || eqb k i) 8 (λ j l. rw (ne_eqb k i q) (sym (or_none (F k j))))
