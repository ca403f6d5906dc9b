pub mod ShopMembers
pub mod ShopStages
pub mod ShopTurns
pub mod Told
pub mod BankStages
pub mod BankTurns
pub mod WashStages
pub mod WashTurns
