pub mod WrittenLaid
pub mod WrittenParts
pub mod WrittenBook
