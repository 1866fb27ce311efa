-- Laws of the signs and of the indices that C is handed.
pub mod SignLaws
pub mod IndexLaws
