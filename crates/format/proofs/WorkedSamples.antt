-- The worked samples hold: the definitions compute them. Assumes nothing.
use Rattle.std.proofs.Common.{◌≡◌, ℕ, ◌<◌, List, get_or, refl, ap, arith, lit<}
use Rattle.format.specs.Orders.{little}
use Rattle.format.specs.Answers.{good, fault}
use Rattle.format.specs.Scalars.{number_kind}
use Rattle.format.specs.Samples.{Worked}
use Rattle.format.proofs.OrderLaws.{little_undoes, width_2}
use Rattle.format.proofs.ScalarLaws.{number_laws}
use Rattle.format.proofs.LinkLaws.{pointer_laws}

-- two lists that differ at an index are not equal
differ : (i : ℕ) (xs ys : List ℕ) → (get_or xs i 0 ≡ get_or ys i 0 → ⊥) → xs ≡ ys → ⊥
differ i xs ys ne e = ne (ap (λ zs. get_or zs i 0) e)

pub worked : Worked
worked = record {
  two_texts_built_little = refl;
  two_texts_built_big = refl;
  two_texts_read_little = refl;
  two_texts_read_big = refl;
  wrong_mark_of_an_item = refl;
  pointer_behind_one_byte = refl;
  pointer_without_room = refl;
  inline_of_two = refl;
  inline_of_four = refl;
  one_number_found = refl;
  one_number_deep = refl;
  target_past_the_end = refl;
  target_not_aligned = refl;
  pointer_leading_back = refl;
  pointer_back_read = refl;
  life_answered = refl;
  life_finished = refl;
  life_left = refl;
  life_again = refl;
  life_lawful = (tt, tt, (tt, tt, ((λ e. omega arith), tt, (tt, (pointer_laws (number_kind 2 little) little (number_laws 2 little width_2 little_undoes) little_undoes, (lit< tt, (lit< tt, (lit< tt, (lit< tt, (lit< tt, (lit< tt, tt))))))), (tt, tt, (tt, tt, tt))))));
  life_spared = ((λ a i e from below w. let e : fault 5 0 ≡ good a = e in let z : ◌≡◌ {A = ℕ} 0 1 = cc in omega arith), ((λ a i e from below w. let k : i < 1 = w.1 in omega arith), tt));
  not_from_the_count = differ 4 _ _ (λ e. omega arith);
  not_read_from_the_count = λ e. let z : ◌≡◌ {A = ℕ} 0 1 = cc in omega arith;
  not_from_the_first_item = differ 20 _ _ (λ e. omega arith);
  not_cut_inside_a_character = differ 0 _ _ (λ e. omega arith);
}
