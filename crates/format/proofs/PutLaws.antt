-- Laws of putting bytes over others. Assumes nothing.
use Rattle.std.proofs.Common.{◌≡◌, ℕ, ◌+◌, ◌≤◌, List, [], ◌++◌, length, take, drop, sym, ap, ◌∙◌, ap₂, append_assoc, add-zero, arith}
use Rattle.std.proofs.lemmas.List.{length-append, length-take-le, take-append-le, take-append-drop, take_at, drop_at, drop-append-le, drop-drop}
use Rattle.format.specs.Places.{put}
use Rattle.format.proofs.ByteLists.{length-put}

pub put_nil : (buf : List ℕ) (p : ℕ) → put buf p [] ≡ buf
put_nil buf p = ap (λ z. take p buf ++ drop z buf) (add-zero p) ∙ take-append-drop p buf

-- a head, told by a number, and no tail
pub head-alone : (lay : ℕ → List ℕ) (n m : ℕ) (out new : List ℕ) (h t : ℕ) → n ≡ m → new ≡ put out h (lay n) → new ≡ put (put out h (lay m)) t []
head-alone lay n m out new h t e f = f ∙ (ap (λ z. put out h (lay z)) e ∙ sym (put_nil (put out h (lay m)) t))

-- one part right behind another
pub put-put : (buf : List ℕ) (p : ℕ) (xs ys : List ℕ) (q : ℕ) → p ≤ length buf → q ≡ p + length xs → put (put buf p xs) q ys ≡ put buf p (xs ++ ys)
put-put buf p xs ys q h e =
    let front = take p buf in
    let rest = drop (p + length xs) buf in
    let l : length (front ++ xs) ≡ q = length-append front xs ∙ (ap (λ z. z + length xs) (length-take-le p buf h) ∙ sym e) in
    let regroup : put buf p xs ≡ (front ++ xs) ++ rest = sym (append_assoc front xs rest) in
    let first : take q (put buf p xs) ≡ front ++ xs = ap (take q) regroup ∙ take_at (front ++ xs) rest q l in
    let n : p + length (xs ++ ys) ≡ p + length xs + length ys = let k = length-append xs ys in omega arith in
    let last : drop (q + length ys) (put buf p xs) ≡ drop (p + length (xs ++ ys)) buf =
    ap (drop (q + length ys)) regroup ∙ (sym (drop-drop (length ys) q ((front ++ xs) ++ rest)) ∙ (ap (drop (length ys)) (drop_at (front ++ xs) rest q l) ∙ (drop-drop (length ys) (p + length xs) buf ∙ ap (λ z. drop z buf) (sym n)))) in
    ap (λ z. z ++ (ys ++ drop (q + length ys) (put buf p xs))) first ∙ (ap (λ z. (front ++ xs) ++ (ys ++ z)) last ∙ (append_assoc front xs (ys ++ drop (p + length (xs ++ ys)) buf) ∙ ap (λ z. front ++ z) (sym (append_assoc xs ys (drop (p + length (xs ++ ys)) buf)))))

-- bytes that are put over the first of two parts, and at the start of the second
put_left : (x y : List ℕ) (p : ℕ) (xs : List ℕ) → p + length xs ≤ length x → put (x ++ y) p xs ≡ put x p xs ++ y
put_left x y p xs h =
    ap₂ (λ a b. a ++ (xs ++ b)) (take-append-le p x y (omega arith)) (drop-append-le (p + length xs) x y h) ∙ sym (append_assoc (take p x) (xs ++ drop (p + length xs) x) y ∙ ap (λ z. take p x ++ z) (append_assoc xs (drop (p + length xs) x) y))

put_right : (x y : List ℕ) (q : ℕ) (ys : List ℕ) → length x ≡ q → put (x ++ y) q ys ≡ x ++ (ys ++ drop (length ys) y)
put_right x y q ys h = ap₂ (λ a b. a ++ (ys ++ b)) (take_at x y q h) (sym (drop-drop (length ys) q (x ++ y)) ∙ ap (drop (length ys)) (drop_at x y q h))

-- it does not matter which is put first
pub put_apart : (buf : List ℕ) (p q : ℕ) (xs ys : List ℕ) → p + length xs ≤ q → q ≤ length buf → put (put buf q ys) p xs ≡ put (put buf p xs) q ys
put_apart buf p q xs ys h l =
    let x = take q buf in
    let k = length-take-le q buf l in
    let j : length (put x p xs) ≡ q = length-put x p xs (omega arith) ∙ k in
    let before : put buf p xs ≡ put x p xs ++ drop q buf = ap (λ z. put z p xs) (sym (take-append-drop q buf)) ∙ put_left x (drop q buf) p xs (omega arith) in
    put_left x (ys ++ drop (q + length ys) buf) p xs (omega arith) ∙
    sym (ap (λ z. put z q ys) before ∙ (put_right (put x p xs) (drop q buf) q ys j ∙ ap (λ z. put x p xs ++ (ys ++ z)) (drop-drop (length ys) q buf)))

-- two places that grow side by side, the first up to the second at most
pub put-beside :
    (buf : List ℕ) (p q g e : ℕ) (xs ys us vs : List ℕ) → g ≡ p + length xs → e ≡ q + length ys → g + length us ≤ q → e + length vs ≤ length buf →
    put (put (put (put buf p xs) q ys) g us) e vs ≡ put (put buf p (xs ++ us)) q (ys ++ vs)
put-beside buf p q g e xs ys us vs hg he below room =
    let a = length-put buf p xs (omega arith) in
    let k = length-append xs us in
    let b = length-put buf p (xs ++ us) (omega arith) in
    ap (λ z. put z e vs) (put_apart (put buf p xs) g q us ys below (omega arith) ∙ ap (λ z. put z q ys) (put-put buf p xs us g (omega arith) hg)) ∙
    put-put (put buf p (xs ++ us)) q ys vs e (omega arith) he
