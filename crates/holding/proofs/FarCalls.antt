-- What a kind asks that holds a value by one distance, and what it answers by what that value asks and answers. Assumes nothing.
use Rattle.std.proofs.Common.{◌≡◌, ℕ, ◌+◌, ◌-◌, ◌%◌, ◌<◌, ◌≤◌, max, List, ◌++◌, length, sym, ap, ◌∙◌, subst, ap₂, refl, arith}
use Rattle.std.proofs.lemmas.List.{length-replicate}
use Rattle.format.specs.Places.{limit, stop, up, zeros, put, Bytes}
use Rattle.format.specs.Meaning.{Meaning, Laid, Keeps}
use Rattle.format.specs.Links.{far}
use Rattle.format.proofs.ByteLists.{length-put}
use Rattle.format.proofs.PutLaws.{put-put}
use Rattle.format.proofs.RoundLaws.{up_ge, up-mod, alignment_pos, alignment_most}
use Rattle.kind.specs.Asked.{value_at, Next, Askable, Foretold, Fillable, filled}
use Rattle.rows.proofs.Values.{value-belongs, value_placed}

-- a value of w at p in a sheet holds one of b by a distance: that one stands at d in the sheet, and the head is told by its own place and that of the other's head
pub record HeldFar (w b : Meaning) (s : List ℕ) (p d : ℕ) (head : ℕ → ℕ → List ℕ) : Type 0 where
  pub holder : Keeps w
  pub keeps : Keeps b
  pub bytes : Bytes s
  pub found : (n : ℕ) → Next w s p n → Next b s d n
  pub laid : (n h t : ℕ) → Next w s p n → w.lay (value_at w s p) h t ≡ far (head h (up t b.align)) b (value_at b s d) t

-- the same as `far` says, where the head of what is held is put at q, and its tail from e on
abbrev far_at : List ℕ → Meaning → List ℕ → (t q e : ℕ) → Laid
far_at head m v t q e = let x = m.lay v q e in record { head = head; tail = zeros (q - t) ++ (x.head ++ x.tail); end = x.end; widest = max 4 x.widest }

module _ {w b : Meaning} {s : List ℕ} {p d : ℕ} {head : ℕ → ℕ → List ℕ} (l : HeldFar w b s p d head) where
  pub far-next : {n r : ℕ} → Next w s p n → Next b s d r → Next w s p r
  far-next {n} h i = h ∙ (sym (l.found n h) ∙ i)

  -- a and z are the alignment and the size of what is held, as the code has them
  module _ {a : ℕ} (e : a ≡ b.align) where
    alignment : (0 < a) × (a ≤ 4096)
    alignment = let least = alignment_pos b.align l.keeps.power in let most = alignment_most b.align l.keeps.power in (omega arith, omega arith)

    module _ {z : ℕ} (g : z ≡ b.size) {t : ℕ} (k : Askable w s p t) where
      pub far-tail_asks : (t ≤ 2147483648) × ((0 < a) × ((a ≤ 4096) × (z ≤ 2147483648)))
      far-tail_asks = let x = alignment in let c = l.keeps.capped in (k.reached, (x.0, (x.1, omega arith)))

      -- x is where its tail starts, as the code has it
      module _ {x : ℕ} (starts : x ≡ stop (up t a + z)) where
        start : x ≡ stop (up t b.align + b.size)
        start = starts ∙ ap₂ (λ a z. stop (up t a + z)) e g

        pub far_askable : Askable b s d x
        far_askable = let h = start in record { next = k.next; found = l.found k.next k.found; reached = omega arith }

        pub far_foretold : {end wide widest : ℕ} → Foretold b s d x end wide → widest ≡ max wide 4 → Foretold w s p t end widest
        far_foretold {end} {wide} {widest} fore most h =
            let y = subst (λ x. Foretold b s d x end wide) start fore (up t b.align) in
            subst (λ x. (x.end ≡ end) × (x.widest ≡ widest)) (sym (l.laid k.next h t k.found)) (y.0, omega (arith, y.1))

  module _ {out : List ℕ} {h t : ℕ} (f : Fillable w s p out h t) {a : ℕ} (e : a ≡ b.align) where
    -- q is where its head is put, and j where its tail starts, as the code has them
    module _ {q : ℕ} (reached : q ≡ up t a) {j : ℕ} (starts : j ≡ q + b.size) where
      place : q ≡ up t b.align
      place = reached ∙ ap (up t) e

      record Room : Type 0 where
        on : t ≤ q
        within : j ≤ length out
        same : w.lay (value_at w s p) h t ≡ far_at (head h q) b (value_at b s d) t q j
        fits : (b.lay (value_at b s d) q j).end ≤ length out
        below : h + length (head h q) ≤ t

      room : Room
      room =
          let at = place in
          let v = value_at b s d in
          let least = (up_ge t b.align (alignment_pos b.align l.keeps.power)).0 in
          let belongs = value-belongs b l.keeps s d l.bytes f.next (l.found f.next f.found) in
          let ends = (l.keeps.onward v (up t b.align) (stop (up t b.align + b.size)) belongs (omega arith)).0 in
          let laid = l.laid f.next h t f.found in
          let end = subst (λ x. x.end ≤ length out) laid f.room in
          let exact : stop (up t b.align + b.size) ≡ j = omega arith in
          let same : w.lay (value_at w s p) h t ≡ far_at (head h q) b v t q j = laid ∙ ap₂ (λ q e. far_at (head h q) b v t q e) (sym at) exact in
          let long = ap (λ x. length x.head) (sym same) ∙ l.holder.head_long (value_at w s p) h t (value_placed w l.holder s p l.bytes out h t f) in
          record { on = omega arith; within = omega arith; same = same; fits = subst (λ x. x.end ≤ length out) same f.room; below = omega arith }

      pub far_fillable : {next : List ℕ} → length next ≡ length out → Fillable b s d next q j
      far_fillable long =
          let r = room in
          record {
            next = f.next;
            found = l.found f.next f.found;
            aligned = ap (λ q. q % b.align) place ∙ up-mod t b.align;
            behind = omega arith;
            starts = omega arith;
            room = omega arith;
            capped = omega arith;
          }

      -- the head, zeros, and the head and the tail of what is held are put one behind another
      pub far-filled :
          {next new : List ℕ} {r : ℕ} → next ≡ put (put out h (head h (up t a))) t (zeros (up t a - t)) → new ≡ filled next q j (b.lay (value_at b s d) q j) →
          r ≡ (b.lay (value_at b s d) q j).end → (new ≡ filled out h t (w.lay (value_at w s p) h t)) × (r ≡ (w.lay (value_at w s p) h t).end)
      far-filled {next} put_head put-held end =
          let r = room in
          let first = put out h (head h q) in
          let pad = zeros (q - t) in
          let x = b.lay (value_at b s d) q j in
          let padded : next ≡ put first t pad = put_head ∙ ap (λ q. put (put out h (head h q)) t (zeros (q - t))) (sym reached) in
          let first_long = length-put out h (head h q) (omega arith) in
          let pad_long : length pad ≡ q - t = length-replicate (q - t) 0 in
          let long : length next ≡ length out = ap length padded ∙ (length-put first t pad (omega arith) ∙ first_long) in
          let head_long = l.keeps.head_long (value_at b s d) q j (value_placed b l.keeps s d l.bytes next q j (far_fillable long)) in (
            put-held ∙
                (put-put next q x.head x.tail j (omega arith) (omega arith) ∙
                (ap (λ y. put y q (x.head ++ x.tail)) padded ∙
                (put-put first t pad (x.head ++ x.tail) q (omega arith) (omega arith) ∙ ap (filled out h t) (sym r.same)))),
            end ∙ ap (λ y. y.end) (sym r.same),
          )

    pub far_reachable : (next : List ℕ) → length next ≡ length out → (0 < a) × ((a ≤ 4096) × ((up t a ≤ length next) × (length next ≤ limit)))
    far_reachable next long = let x = alignment e in let r = room refl refl in (x.0, (x.1, (omega arith, omega arith)))
