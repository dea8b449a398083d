-- Runs of bytes of one class, as small letters or digits: how long they are, and where they end. Assumes nothing.
use Rattle.std.specs.Prelude.{Bool, true, false, [], ◌∷◌, ℕ, zero, suc, ◌+◌, drop}
use Rattle.characters.specs.Text.{Text}

-- how many bytes of a class a text begins with
unfoldable pub count_of : (ℕ → Bool) → Text → ℕ
count_of f [] = zero
count_of f (b ∷ s) = elim (f b) [ true ↦ suc (count_of f s) | false ↦ zero ]

-- where those from an offset on end
abbrev pub end_of : (ℕ → Bool) → Text → ℕ → ℕ
end_of f s o = o + count_of f (drop o s)
