use Rattle.sim_native_shop.proofs.ShopFits.{shop_fits}
use Rattle.sim_native_shop.proofs.run_shop.Goals as goal

pub new-requires : goal.new-requires
new-requires c = record { fits = rw (c.new-code.ensures, c.in_ok-setup.ensures) (shop_fits c.args.size c.requires.few) }
