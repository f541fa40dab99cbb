use Rattle.std.proofs.Common.{◌≡◌, ℕ, zero, suc, ◌+◌, ◌*◌, ◌<◌, List, [], get_or, drop, ap, ◌∙◌, arith}
use Rattle.std.proofs.Math.Nat.{mul-suc}
use Rattle.std.proofs.lemmas.List.{get_or-take, get_or-drop}
use Rattle.std.specs.Simd.{first_chunks}
use Rattle.coset.proofs.planner.Table.row.Goals as goal

-- Place s of chunk i is place n * i + s of the list.
get_or-first_chunks :
    (n k : ℕ) (xs : List ℕ) (i s : ℕ) → i < k → s < n → get_or (get_or (first_chunks n k xs) i []) s 0 ≡ get_or xs (n * i + s) 0
get_or-first_chunks n zero xs i s below within = absurd (omega arith)
get_or-first_chunks n (suc k) xs zero s below within =
    let here : s ≡ n * 0 + s = omega arith in
    get_or-take n xs s 0 within ∙ ap (λ j. get_or xs j 0) here
get_or-first_chunks n (suc k) xs (suc i) s below within =
    let there : n + (n * i + s) ≡ n * suc i + s = omega (arith, mul-suc n i) in
    get_or-first_chunks n k (drop n xs) i s (omega arith) within ∙ get_or-drop n xs (n * i + s) 0 ∙ ap (λ j. get_or xs j 0) there

pub returns : goal.returns
returns c = λ s h.
    ap (λ rows. get_or (get_or rows c.args.cell []) s 0) c.as_chunks.ensures.front
    ∙ get_or-first_chunks 64 _ c.args.self.now.entries c.args.cell s (omega arith) h
