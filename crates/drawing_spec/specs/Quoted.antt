-- A quoted text as bytes, for rows that compute. Assumes nothing.
use Rattle.std.specs.Prelude.{ℕ, List}
use Prim.Native.Char.{code}
use Prim.Native.String.{String}

unfoldable pub text : String → List ℕ
text String.[] = List.[]
text (String.◌∷◌ c s) = List.◌∷◌ (code c) (text s)
