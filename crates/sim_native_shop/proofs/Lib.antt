pub mod ShopFits
