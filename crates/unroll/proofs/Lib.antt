mod Claims
mod Transfers
mod SameRelations
mod Sometime
mod ByNumber
mod FirstLines
