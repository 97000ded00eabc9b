mod TreeOfParts
mod Preorder
mod Cutting
mod ElementEnds
mod Asking
mod Alternatives
mod KnownParts
