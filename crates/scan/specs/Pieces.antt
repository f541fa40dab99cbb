-- Bytes cut at a separator into pieces, and the pieces taken one by one. Assumes nothing.
use Rattle.std.specs.Prelude.{◌≡◌, ℕ, ◌+◌, ◌<◌, List, [], ◌∷◌, length, Some, None, Option, ◌==◌, ◌≢◌, slice_index}
use Rattle.std.specs.List.{AllByRecursion, slice_split, join_with_byte}
use denote.Ref.{Bor}
use Rattle.scan.specs.Rest.{reach}
use Rattle.scan.specs.declared.pieces.Piece.{Piece}
use Rattle.scan.specs.declared.pieces.Pieces.{Pieces}

-- The pieces of a list of bytes between the separators b. There is always at least one, and a piece may be empty.
unfoldable pub cut : ℕ → List ℕ → List (List ℕ)
cut b xs = slice_split (λ x. x == b) xs

-- Pieces put together again, with one b between each two.
unfoldable pub joined : ℕ → List (List ℕ) → List ℕ
joined b ps = join_with_byte b ps

-- no byte of a list is b
abbrev pub Lacks : ℕ → List ℕ → Type 0
Lacks b xs = (k : ℕ) → k < length xs → slice_index xs k ≢ b

-- ps are the pieces of xs: there is at least one, none has the separator, and joined they are xs.
pub record Cuts (b : ℕ) (xs : List ℕ) (ps : List (List ℕ)) : Type 0 where
  pub some : 0 < length ps
  pub clean : AllByRecursion (Lacks b) ps
  pub joins : joined b ps ≡ xs

-- The law: cut gives the pieces, and there are no others.
abbrev pub CutLaw : Type 0
CutLaw = (b : ℕ) (xs : List ℕ) → Cuts b xs (cut b xs) × ((ps : List (List ℕ)) → Cuts b xs ps → ps ≡ cut b xs)

-- the pieces of the bytes that are left, and none where nothing is
abbrev pub pieces_in : ℕ → Option (Bor (List ℕ)) → List (List ℕ)
pieces_in b (Some rest) = cut b rest.now
pieces_in b None = []

-- the pieces that are still to be taken
abbrev pub pieces_left : Pieces → List (List ℕ)
pieces_left s = pieces_in s.separator s.rest

-- The first piece left is taken, with its place; the next one begins after the separator that ends it.
pub record Takes (s : Pieces) (p : Piece) (t : Pieces) : Type 0 where
  pub first : pieces_left s ≡ p.bytes.now ∷ pieces_left t
  pub place : p.at ≡ s.at
  pub next : t.at ≡ s.at + length p.bytes.now + 1
  pub reach : reach t.at t.rest ≡ reach s.at s.rest
  pub separator : t.separator ≡ s.separator

-- A piece is taken, or none is left and nothing changes.
abbrev pub NextPiece : Pieces → Option Piece → Pieces → Type 0
NextPiece s (Some p) t = Takes s p t
NextPiece s None t = (pieces_left s ≡ []) × (t ≡ s)
