-- The parts that are added one after the other are the lines.
use Rattle.std.proofs.Common.{◌≡◌, ℕ, List, [], ◌++◌, ◌∙◌, append_assoc, arith}
use Rattle.sim_shop.proofs.ShopIsRead.{shop_is_read}
use Rattle.sim_shop.proofs.shop.shop_text.Goals as goal

joined : (a b c d e f g : List ℕ) → [] ++ a ++ b ++ c ++ d ++ e ++ f ++ g ≡ a ++ (b ++ (c ++ (d ++ (e ++ (f ++ g)))))
joined a b c d e f g =
    append_assoc (a ++ b ++ c ++ d ++ e) f g
    ∙ append_assoc (a ++ b ++ c ++ d) e (f ++ g)
    ∙ append_assoc (a ++ b ++ c) d (e ++ (f ++ g))
    ∙ append_assoc (a ++ b) c (d ++ (e ++ (f ++ g)))
    ∙ append_assoc a b (c ++ (d ++ (e ++ (f ++ g))))

-- a text to which seven parts are added
added : (r s t u v w x y a b c d e f g : List ℕ) → r ≡ [] → s ≡ r ++ a → t ≡ s ++ b → u ≡ t ++ c
    → v ≡ u ++ d → w ≡ v ++ e → x ≡ w ++ f → y ≡ x ++ g → y ≡ a ++ (b ++ (c ++ (d ++ (e ++ (f ++ g)))))
added r s t u v w x y a b c d e f g hr hs ht hu hv hw hx hy = rw (hy, hx, hw, hv, hu, ht, hs, hr) (joined a b c d e f g)

pub returns : goal.returns
returns c = record {
  text = added _ _ _ _ _ _ _ _ _ _ _ _ _ _ _
      c.new-text.ensures.items
      c.in_ok-extend_from_slice.ensures.items c.in_ok-append_number.ensures
      c.in_ok-extend_from_slice-2.ensures.items c.in_ok-append_number-2.ensures
      c.in_ok-extend_from_slice-3.ensures.items c.in_ok-append_number-3.ensures
      c.in_ok-extend_from_slice-4.ensures.items;
  accepted = shop_is_read c.args.size (omega (arith, c.ranges.size));
}
