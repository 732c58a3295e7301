pub mod Permuted
pub mod Allowed
pub mod AllowedFurther
pub mod NoLonger
