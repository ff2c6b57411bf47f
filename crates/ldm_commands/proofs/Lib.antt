mod Named
mod Lacking
mod Times
